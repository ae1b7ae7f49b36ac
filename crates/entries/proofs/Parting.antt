-- Entry lists parted at a position: what is read of each part, and what the parts keep.
use Rattle.std.proofs.Common.{◌≡◌, ℕ, suc, ◌<◌, ◌≤◌, cond, ltb, List, [], ◌∷◌, refl, inl, inr, arith}
use Rattle.std.proofs.lemmas.Bool.{cases_lt, cases_Bool}
use Rattle.entries.specs.Entries.{Entry, hits, read, AllFrom, Sorted, Lacks, Single, entries_before, entries_behind, SplitReads}

-- up to p, entries behind p do not tell
pub read_late : {V : Type 0} (pos : ℕ → ℕ) (f p : ℕ) (a : V) (es : List (Entry V)) → AllFrom pos (suc p) es → read pos f p a es ≡ a
read_late pos f p a [] h = refl
read_late pos f p a (e ∷ es) h = let i = read_late pos f p a es h.1 in grind arith

pub read_before : {V : Type 0} (pos : ℕ → ℕ) (f x p : ℕ) (a : V) (es : List (Entry V)) → p < x
    → read pos f p a (entries_before pos x es) ≡ read pos f p a es
read_before pos f x p a [] h = refl
read_before pos f x p a (e ∷ es) h =
    let i = read_before pos f x p (cond (hits pos f p e) e.value a) es h in
    let j = read_before pos f x p a es h in grind arith

pub from_weaken : {V : Type 0} (pos : ℕ → ℕ) (p q : ℕ) (es : List (Entry V)) → p ≤ q → AllFrom pos q es → AllFrom pos p es
from_weaken pos p q [] h k = tt
from_weaken pos p q (e ∷ es) h k = (omega arith, from_weaken pos p q es h k.1)

pub behind_all : {V : Type 0} (pos : ℕ → ℕ) (x : ℕ) (es : List (Entry V)) → AllFrom pos (suc x) es → entries_behind pos x es ≡ es
behind_all pos x [] h = refl
behind_all pos x (e ∷ es) h = let i = behind_all pos x es h.1 in grind arith

-- entries in order, the value at x told first, then those behind x
pub read_behind : {V : Type 0} (pos : ℕ → ℕ) (f x p : ℕ) (a : V) (es : List (Entry V)) → Sorted pos es → x ≤ p
    → read pos f p (read pos f x a es) (entries_behind pos x es) ≡ read pos f p a es
read_behind pos f x p a [] s h = refl
read_behind pos f x p a (e ∷ es) s h =
    elim (cases_lt x (pos e.version)) [
      | inl lt ↦
          let late = from_weaken pos (suc x) (pos e.version) es lt s.0 in
          let r = read_late pos f x a es late in
          let b = behind_all pos x es late in
          grind arith
      | inr ge ↦ let i = read_behind pos f x p (cond (hits pos f x e) e.value a) es s.1 h in grind arith
    ]

pub split_reads : SplitReads
split_reads pos es s f x p a = (read_before pos f x p a es, read_behind pos f x p a es s)

pub from_before : {V : Type 0} (pos : ℕ → ℕ) (x q : ℕ) (es : List (Entry V)) → AllFrom pos q es → AllFrom pos q (entries_before pos x es)
from_before pos x q [] h = tt
from_before pos x q (e ∷ es) h =
    elim (cases_Bool (ltb (pos e.version) x)) [ inl t ↦ rw t (h.0, from_before pos x q es h.1) | inr t ↦ rw t (from_before pos x q es h.1) ]

pub from_behind : {V : Type 0} (pos : ℕ → ℕ) (x q : ℕ) (es : List (Entry V)) → AllFrom pos q es → AllFrom pos q (entries_behind pos x es)
from_behind pos x q [] h = tt
from_behind pos x q (e ∷ es) h =
    elim (cases_Bool (ltb x (pos e.version))) [ inl t ↦ rw t (h.0, from_behind pos x q es h.1) | inr t ↦ rw t (from_behind pos x q es h.1) ]

pub late_behind : {V : Type 0} (pos : ℕ → ℕ) (x : ℕ) (es : List (Entry V)) → AllFrom pos (suc x) (entries_behind pos x es)
late_behind pos x [] = tt
late_behind pos x (e ∷ es) =
    elim (cases_Bool (ltb x (pos e.version)))
    [ inl t ↦ let l : x < pos e.version = grind arith in rw t (l, late_behind pos x es) | inr t ↦ rw t (late_behind pos x es) ]

pub lacks_before : {V : Type 0} (pos : ℕ → ℕ) (x g q : ℕ) (es : List (Entry V)) → Lacks pos g q es → Lacks pos g q (entries_before pos x es)
lacks_before pos x g q [] h = tt
lacks_before pos x g q (e ∷ es) h =
    elim (cases_Bool (ltb (pos e.version) x)) [ inl t ↦ rw t (h.0, lacks_before pos x g q es h.1) | inr t ↦ rw t (lacks_before pos x g q es h.1) ]

pub lacks_behind : {V : Type 0} (pos : ℕ → ℕ) (x g q : ℕ) (es : List (Entry V)) → Lacks pos g q es → Lacks pos g q (entries_behind pos x es)
lacks_behind pos x g q [] h = tt
lacks_behind pos x g q (e ∷ es) h =
    elim (cases_Bool (ltb x (pos e.version))) [ inl t ↦ rw t (h.0, lacks_behind pos x g q es h.1) | inr t ↦ rw t (lacks_behind pos x g q es h.1) ]

pub sorted_before : {V : Type 0} (pos : ℕ → ℕ) (x : ℕ) (es : List (Entry V)) → Sorted pos es → Sorted pos (entries_before pos x es)
sorted_before pos x [] h = tt
sorted_before pos x (e ∷ es) h =
    elim (cases_Bool (ltb (pos e.version) x)) [ inl t ↦ rw t (from_before pos x (pos e.version) es h.0, sorted_before pos x es h.1) | inr t ↦ rw t (sorted_before pos x es h.1) ]

pub sorted_behind : {V : Type 0} (pos : ℕ → ℕ) (x : ℕ) (es : List (Entry V)) → Sorted pos es → Sorted pos (entries_behind pos x es)
sorted_behind pos x [] h = tt
sorted_behind pos x (e ∷ es) h =
    elim (cases_Bool (ltb x (pos e.version))) [ inl t ↦ rw t (from_behind pos x (pos e.version) es h.0, sorted_behind pos x es h.1) | inr t ↦ rw t (sorted_behind pos x es h.1) ]

pub single_before : {V : Type 0} (pos : ℕ → ℕ) (x : ℕ) (es : List (Entry V)) → Single pos es → Single pos (entries_before pos x es)
single_before pos x [] h = tt
single_before pos x (e ∷ es) h =
    elim (cases_Bool (ltb (pos e.version) x)) [ inl t ↦ rw t (lacks_before pos x e.field (pos e.version) es h.0, single_before pos x es h.1) | inr t ↦ rw t (single_before pos x es h.1) ]

pub single_behind : {V : Type 0} (pos : ℕ → ℕ) (x : ℕ) (es : List (Entry V)) → Single pos es → Single pos (entries_behind pos x es)
single_behind pos x [] h = tt
single_behind pos x (e ∷ es) h =
    elim (cases_Bool (ltb x (pos e.version))) [ inl t ↦ rw t (lacks_behind pos x e.field (pos e.version) es h.0, single_behind pos x es h.1) | inr t ↦ rw t (single_behind pos x es h.1) ]
