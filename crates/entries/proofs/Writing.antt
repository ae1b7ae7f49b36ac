-- Entries that are written and added: what is read afterwards, and that order and singleness stay.
use Rattle.std.proofs.Common.{◌≡◌, ℕ, suc, ◌<◌, ◌≤◌, true, false, cond, ltb, List, [], ◌∷◌, refl, ◌∙◌, subst, inl, inr, le_refl, arith}
use Rattle.std.proofs.lemmas.Bool.{cases_lt, cases_Bool}
use Rattle.entries.specs.Entries.{Entry, hits, sets, has, read, AllFrom, Sorted, entries_behind, Lacks, Single, put, keep, PutReads, KeepReads}
use Rattle.entries.proofs.Parting.{from_weaken, behind_all, read_behind}

pub put_before : {V : Type 0} (pos : ℕ → ℕ) (f g u p : ℕ) (w a : V) (es : List (Entry V)) → p < pos u
    → Single pos es → read pos g p a (put pos f u w es) ≡ read pos g p a es
put_before pos f g u p w a [] h s = grind arith
put_before pos f g u p w a (e ∷ es) h s =
    let i = put_before pos f g u p w (cond (hits pos g p e) e.value a) es h s.1 in grind arith

pub put_other : {V : Type 0} (pos : ℕ → ℕ) (f g u p : ℕ) (w a : V) (es : List (Entry V)) → (f ≡ g → ⊥)
    → read pos g p a (put pos f u w es) ≡ read pos g p a es
put_other pos f g u p w a [] n = grind arith
put_other pos f g u p w a (e ∷ es) n =
    let i = put_other pos f g u p w (cond (hits pos g p e) e.value a) es n in grind arith

-- where f has no entry at x and all stand at x or behind, the entries behind x tell all
read_lacks : {V : Type 0} (pos : ℕ → ℕ) (f x p : ℕ) (a : V) (es : List (Entry V)) → AllFrom pos x es → Lacks pos f x es
    → read pos f p a (entries_behind pos x es) ≡ read pos f p a es
read_lacks pos f x p a [] h l = refl
read_lacks pos f x p a (e ∷ es) h l =
    let i = read_lacks pos f x p a es h.1 l.1 in
    let j = read_lacks pos f x p e.value es h.1 l.1 in
    let n = l.0 in
    grind arith

pub put_behind : {V : Type 0} (pos : ℕ → ℕ) (f u p : ℕ) (w a : V) (es : List (Entry V)) → Sorted pos es → Single pos es
    → pos u ≤ p → read pos f p a (put pos f u w es) ≡ read pos f p w (entries_behind pos (pos u) es)
put_behind pos f u p w a [] s d h = grind arith
put_behind pos f u p w a (e ∷ es) s d h =
    elim (cases_lt (pos u) (pos e.version)) [
      | inl lt ↦
          let b = behind_all pos (pos u) es (from_weaken pos (suc (pos u)) (pos e.version) es lt s.0) in
          grind arith
      | inr ge ↦
          let i = put_behind pos f u p w (cond (hits pos f p e) e.value a) es s.1 d.1 h in
          let j : e.field ≡ f → pos e.version ≡ pos u → read pos f p w (entries_behind pos (pos u) es) ≡ read pos f p w es =
          λ ef eu. read_lacks pos f (pos u) p w es (rw eu at s.0) (rw (ef, eu) at d.0) in
          grind arith
    ]

pub behind_put : {V : Type 0} (pos : ℕ → ℕ) (f u : ℕ) (w : V) (es : List (Entry V))
    → entries_behind pos (pos u) (put pos f u w es) ≡ entries_behind pos (pos u) es
behind_put pos f u w [] = grind arith
behind_put pos f u w (e ∷ es) = let i = behind_put pos f u w es in grind arith

pub from_put : {V : Type 0} (pos : ℕ → ℕ) (f u q : ℕ) (w : V) (es : List (Entry V)) → q ≤ pos u → AllFrom pos q es → AllFrom pos q (put pos f u w es)
from_put pos f u q w [] h k = (h, tt)
from_put pos f u q w (e ∷ es) h k =
    let i = from_put pos f u q w es h k.1 in
    elim (cases_Bool (ltb (pos u) (pos e.version))) [
      | inl a ↦ rw a (h, k)
      | inr a ↦ rw a (elim (cases_Bool (sets pos f (pos u) e)) [ inl b ↦ rw b (h, k.1) | inr b ↦ rw b (k.0, i) ])
    ]

pub sorted_put : {V : Type 0} (pos : ℕ → ℕ) (f u : ℕ) (w : V) (es : List (Entry V)) → Sorted pos es → Sorted pos (put pos f u w es)
sorted_put pos f u w [] s = (tt, tt)
sorted_put pos f u w (e ∷ es) s =
    let i = sorted_put pos f u w es s.1 in
    elim (cases_Bool (ltb (pos u) (pos e.version))) [
      | inl a ↦
          let lt : pos u ≤ pos e.version = grind arith in
          rw a ((lt, from_weaken pos (pos u) (pos e.version) es lt s.0), s)
      | inr a ↦
          let ge : pos e.version ≤ pos u = grind arith in
          rw a
          (elim (cases_Bool (sets pos f (pos u) e)) [
            | inl b ↦
                let same : pos u ≤ pos e.version = grind arith in
                rw b (from_weaken pos (pos u) (pos e.version) es same s.0, s.1)
            | inr b ↦ rw b (from_put pos f u (pos e.version) w es ge s.0, i)
          ])
    ]

-- all behind p: none at p
pub lacks_late : {V : Type 0} (pos : ℕ → ℕ) (f p : ℕ) (es : List (Entry V)) → AllFrom pos (suc p) es → Lacks pos f p es
lacks_late pos f p [] h = tt
lacks_late pos f p (e ∷ es) h = ((λ _ q. omega arith), lacks_late pos f p es h.1)

pub lacks_put : {V : Type 0} (pos : ℕ → ℕ) (f g u p : ℕ) (w : V) (es : List (Entry V)) → (f ≡ g → pos u ≡ p → ⊥) → Lacks pos g p es
    → Lacks pos g p (put pos f u w es)
lacks_put pos f g u p w [] n k = (n, tt)
lacks_put pos f g u p w (e ∷ es) n k =
    let i = lacks_put pos f g u p w es n k.1 in
    elim (cases_Bool (ltb (pos u) (pos e.version))) [
      | inl a ↦ rw a (n, k)
      | inr a ↦ rw a (elim (cases_Bool (sets pos f (pos u) e)) [ inl b ↦ rw b (n, k.1) | inr b ↦ rw b (k.0, i) ])
    ]

at_true : {V : Type 0} (pos : ℕ → ℕ) (f p : ℕ) (e : Entry V) → sets pos f p e ≡ true → (e.field ≡ f) × (pos e.version ≡ p)
at_true pos f p e h = (grind arith, grind arith)

at_false : {V : Type 0} (pos : ℕ → ℕ) (f p : ℕ) (e : Entry V) → sets pos f p e ≡ false → f ≡ e.field → p ≡ pos e.version → ⊥
at_false pos f p e h a b = grind arith

pub single_put : {V : Type 0} (pos : ℕ → ℕ) (f u : ℕ) (w : V) (es : List (Entry V)) → Sorted pos es → Single pos es → Single pos (put pos f u w es)
single_put pos f u w [] s d = (tt, tt)
single_put pos f u w (e ∷ es) s d =
    let i = single_put pos f u w es s.1 d.1 in
    elim (cases_Bool (ltb (pos u) (pos e.version))) [
      | inl a ↦
          let lt : pos u < pos e.version = grind arith in
          rw a (lacks_late pos f (pos u) (e ∷ es) (lt, from_weaken pos (suc (pos u)) (pos e.version) es lt s.0), d)
      | inr a ↦
          rw a
          (elim (cases_Bool (sets pos f (pos u) e)) [
            | inl b ↦
                let q = at_true pos f (pos u) e b in
                rw b (subst (λ (n : ℕ). Lacks pos f n es) q.1 (subst (λ (n : ℕ). Lacks pos n (pos e.version) es) q.0 d.0), d.1)
            | inr b ↦ rw b (lacks_put pos f e.field u (pos e.version) w es (at_false pos f (pos u) e b) d.0, i)
          ])
    ]

-- an entry at q, and then the value that was told before is forgotten
pub has_forgets : {V : Type 0} (pos : ℕ → ℕ) (f q p : ℕ) (a b : V) (es : List (Entry V)) → has pos f q es ≡ true → q ≤ p
    → read pos f p a es ≡ read pos f p b es
has_forgets pos f q p a b [] h k = grind arith
has_forgets pos f q p a b (e ∷ es) h k =
    elim (cases_Bool (has pos f q es)) [
      | inl t ↦ has_forgets pos f q p (cond (hits pos f p e) e.value a) (cond (hits pos f p e) e.value b) es t k
      | inr n ↦ grind arith
    ]

pub has_behind : {V : Type 0} (pos : ℕ → ℕ) (f q x : ℕ) (es : List (Entry V)) → x < q → has pos f q (entries_behind pos x es) ≡ has pos f q es
has_behind pos f q x [] h = refl
has_behind pos f q x (e ∷ es) h = let i = has_behind pos f q x es h in grind arith

pub has_put : {V : Type 0} (pos : ℕ → ℕ) (f u : ℕ) (w : V) (es : List (Entry V)) → has pos f (pos u) (put pos f u w es) ≡ true
has_put pos f u w [] = grind arith
has_put pos f u w (e ∷ es) = let i = has_put pos f u w es in grind arith

pub read_step : {V : Type 0} (pos : ℕ → ℕ) (f q : ℕ) (a : V) (es : List (Entry V)) → has pos f (suc q) es ≡ false
    → read pos f (suc q) a es ≡ read pos f q a es
read_step pos f q a [] h = refl
read_step pos f q a (e ∷ es) h =
    let t : has pos f (suc q) es ≡ false = grind arith in
    let i = read_step pos f q (cond (hits pos f q e) e.value a) es t in grind arith

-- the next version's entry changes no value
pub keep_reads : {V : Type 0} (pos : ℕ → ℕ) (f u s p : ℕ) (a : V) (es : List (Entry V)) → Sorted pos es → Single pos es → pos s ≡ suc (pos u)
    → read pos f p a (keep pos f s (read pos f (pos u) a es) es) ≡ read pos f p a es
keep_reads pos f u s p a es so d n =
    elim (cases_Bool (has pos f (pos s) es)) [
      | inl t ↦ grind arith
      | inr t ↦
          elim (cases_lt p (pos s)) [
            | inl lt ↦ let b = put_before pos f f s p (read pos f (pos u) a es) a es lt d in grind arith
            | inr ge ↦
                let b = put_behind pos f s p (read pos f (pos u) a es) a es so d ge in
                let c = read_behind pos f (pos s) p a es so ge in
                let h : has pos f (suc (pos u)) es ≡ false = rw n at t in
                let r = read_step pos f (pos u) a es h in
                let r' : read pos f (pos s) a es ≡ read pos f (pos u) a es = rw n r in
                rw t (b ∙ rw (← r') c)
          ]
    ]

pub sorted_keep : {V : Type 0} (pos : ℕ → ℕ) (f s : ℕ) (w : V) (es : List (Entry V)) → Sorted pos es → Sorted pos (keep pos f s w es)
sorted_keep pos f s w es so = elim (cases_Bool (has pos f (pos s) es)) [ inl t ↦ rw t so | inr t ↦ rw t (sorted_put pos f s w es so) ]

pub single_keep : {V : Type 0} (pos : ℕ → ℕ) (f s : ℕ) (w : V) (es : List (Entry V)) → Sorted pos es → Single pos es → Single pos (keep pos f s w es)
single_keep pos f s w es so d = elim (cases_Bool (has pos f (pos s) es)) [ inl t ↦ rw t d | inr t ↦ rw t (single_put pos f s w es so d) ]

pub has_keep : {V : Type 0} (pos : ℕ → ℕ) (f s : ℕ) (w : V) (es : List (Entry V)) → has pos f (pos s) (keep pos f s w es) ≡ true
has_keep pos f s w es = elim (cases_Bool (has pos f (pos s) es)) [ inl t ↦ rw t t | inr t ↦ rw t (has_put pos f s w es) ]

pub keep_other : {V : Type 0} (pos : ℕ → ℕ) (f g s p : ℕ) (w a : V) (es : List (Entry V)) → (f ≡ g → ⊥)
    → read pos g p a (keep pos f s w es) ≡ read pos g p a es
keep_other pos f g s p w a es n = elim (cases_Bool (has pos f (pos s) es)) [ inl t ↦ rw t refl | inr t ↦ rw t (put_other pos f g s p w a es n) ]

-- nothing behind x is told at x
pub read_at : {V : Type 0} (pos : ℕ → ℕ) (f x : ℕ) (a : V) (es : List (Entry V)) → read pos f x a (entries_behind pos x es) ≡ a
read_at pos f x a [] = refl
read_at pos f x a (e ∷ es) = let i = read_at pos f x a es in grind arith

pub from_keep : {V : Type 0} (pos : ℕ → ℕ) (f s q : ℕ) (w : V) (es : List (Entry V)) → q ≤ pos s → AllFrom pos q es → AllFrom pos q (keep pos f s w es)
from_keep pos f s q w es h k = elim (cases_Bool (has pos f (pos s) es)) [ inl t ↦ rw t k | inr t ↦ rw t (from_put pos f s q w es h k) ]

pub put_reads : PutReads
put_reads pos es so d f u w a = (
  put_behind pos f u (pos u) w a es so d (le_refl (pos u)) ∙ read_at pos f (pos u) w es,
  (λ p h. put_before pos f f u p w a es h d),
  (λ g p b n. put_other pos f g u p w b es n),
)

pub keep_reads_all : KeepReads
keep_reads_all pos es so d f u s a n = ((λ p. keep_reads pos f u s p a es so d n), (λ g p b ne. keep_other pos f g s p _ b es ne))
