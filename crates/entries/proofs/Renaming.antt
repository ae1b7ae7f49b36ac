-- A field renamed from a version on: what is read afterwards, and that order and singleness stay.
use Rattle.std.proofs.Common.{◌≡◌, ℕ, ◌<◌, ◌≤◌, Bool, false, cond, eqb, leb, ◌⊎◌, List, [], ◌∷◌, sym, refl, ap, ◌∙◌, subst, inl, inr, arith}
use Rattle.std.proofs.lemmas.Bool.{cases_Bool}
use Rattle.entries.specs.Entries.{Entry, both, hits, entry, read, AllFrom, Sorted, entries_behind, Lacks, Single, mapped, renamed, RenamedReads}
use Rattle.entries.proofs.Parting.{read_behind}
use Rattle.entries.proofs.Writing.{put_before, put_other, put_behind, sorted_put, single_put, from_put}

pub mapped_before : {V : Type 0} (pos : ℕ → ℕ) (r : V → V) (f g x p : ℕ) (a : V) (es : List (Entry V)) → p < x
    → read pos g p a (mapped pos r f x es) ≡ read pos g p a es
mapped_before pos r f g x p a [] h = refl
mapped_before pos r f g x p a (e ∷ es) h =
    let i = mapped_before pos r f g x p (cond (hits pos g p e) e.value a) es h in grind arith

pub mapped_other : {V : Type 0} (pos : ℕ → ℕ) (r : V → V) (f g x p : ℕ) (a : V) (es : List (Entry V)) → (f ≡ g → ⊥)
    → read pos g p a (mapped pos r f x es) ≡ read pos g p a es
mapped_other pos r f g x p a [] n = refl
mapped_other pos r f g x p a (e ∷ es) n =
    let i = mapped_other pos r f g x p (cond (hits pos g p e) e.value a) es n in grind arith

-- behind x, r goes through the reading
pub mapped_behind : {V : Type 0} (pos : ℕ → ℕ) (r : V → V) (f x p : ℕ) (a : V) (es : List (Entry V))
    → read pos f p (r a) (entries_behind pos x (mapped pos r f x es)) ≡ r (read pos f p a (entries_behind pos x es))
mapped_behind pos r f x p a [] = refl
mapped_behind pos r f x p a (e ∷ es) =
    let i = mapped_behind pos r f x p a es in
    let j = mapped_behind pos r f x p e.value es in
    grind arith

-- at x the value is the old one, or what r makes of it
pub mapped_at : {V : Type 0} (pos : ℕ → ℕ) (r : V → V) (f x : ℕ) (a b : V) (es : List (Entry V)) → (b ≡ a) ⊎ (b ≡ r a)
    → (read pos f x b (mapped pos r f x es) ≡ read pos f x a es) ⊎ (read pos f x b (mapped pos r f x es) ≡ r (read pos f x a es))
mapped_at pos r f x a b [] h = h
mapped_at pos r f x a b (e ∷ es) h =
    let e' = cond (both (eqb e.field f) (leb x (pos e.version))) (entry e.version e.field (r e.value)) e in
    let k : (cond (hits pos f x e') e'.value b ≡ cond (hits pos f x e) e.value a) ⊎ (cond (hits pos f x e') e'.value b ≡ r (cond (hits pos f x e) e.value a)) =
    grind arith in
    mapped_at pos r f x (cond (hits pos f x e) e.value a) (cond (hits pos f x e') e'.value b) es k

pub from_mapped : {V : Type 0} (pos : ℕ → ℕ) (r : V → V) (f x q : ℕ) (es : List (Entry V)) → AllFrom pos q es → AllFrom pos q (mapped pos r f x es)
from_mapped pos r f x q [] h = tt
from_mapped pos r f x q (e ∷ es) h = (grind arith, from_mapped pos r f x q es h.1)

mapped_ver : {V : Type 0} (pos : ℕ → ℕ) (r : V → V) (f x : ℕ) (e : Entry V)
    → (cond (both (eqb e.field f) (leb x (pos e.version))) (entry e.version e.field (r e.value)) e).version ≡ e.version
mapped_ver pos r f x e = grind arith

mapped_fld : {V : Type 0} (pos : ℕ → ℕ) (r : V → V) (f x : ℕ) (e : Entry V)
    → (cond (both (eqb e.field f) (leb x (pos e.version))) (entry e.version e.field (r e.value)) e).field ≡ e.field
mapped_fld pos r f x e = grind arith

pub sorted_mapped : {V : Type 0} (pos : ℕ → ℕ) (r : V → V) (f x : ℕ) (es : List (Entry V)) → Sorted pos es → Sorted pos (mapped pos r f x es)
sorted_mapped pos r f x [] s = tt
sorted_mapped pos r f x (e ∷ es) s = (
  subst (λ (n : ℕ). AllFrom pos (pos n) (mapped pos r f x es)) (sym (mapped_ver pos r f x e)) (from_mapped pos r f x (pos e.version) es s.0),
  sorted_mapped pos r f x es s.1,
)

lacks_mapped : {V : Type 0} (pos : ℕ → ℕ) (r : V → V) (f x g q : ℕ) (es : List (Entry V)) → Lacks pos g q es → Lacks pos g q (mapped pos r f x es)
lacks_mapped pos r f x g q [] h = tt
lacks_mapped pos r f x g q (e ∷ es) h =
    ((λ a b. h.0 (sym (mapped_fld pos r f x e) ∙ a) (ap pos (sym (mapped_ver pos r f x e)) ∙ b)), lacks_mapped pos r f x g q es h.1)

pub single_mapped : {V : Type 0} (pos : ℕ → ℕ) (r : V → V) (f x : ℕ) (es : List (Entry V)) → Single pos es → Single pos (mapped pos r f x es)
single_mapped pos r f x [] s = tt
single_mapped pos r f x (e ∷ es) s = (
  subst (λ (n : ℕ). Lacks pos n (pos (cond (both (eqb e.field f) (leb x (pos e.version))) (entry e.version e.field (r e.value)) e).version) (mapped pos r f x es)) (sym (mapped_fld pos r f x e))
      (subst (λ (n : ℕ). Lacks pos e.field (pos n) (mapped pos r f x es)) (sym (mapped_ver pos r f x e)) (lacks_mapped pos r f x e.field (pos e.version) es s.0)),
  single_mapped pos r f x es s.1,
)

pub renamed_from : {V : Type 0} (pos : ℕ → ℕ) (es : List (Entry V)) → Sorted pos es → Single pos es → (m : V → Bool) (r : V → V)
    → ((v : V) → m v ≡ false → r v ≡ v) → (f x p : ℕ) (a : V) → pos x ≤ p
    → read pos f p a (renamed pos m r f x a es) ≡ r (read pos f p a es)
renamed_from {V} pos es so d m r q f x p a h =
    let y = read pos f (pos x) a es in
    let ms = sorted_mapped pos r f (pos x) es so in
    let md = single_mapped pos r f (pos x) es d in
    let mb = mapped_behind pos r f (pos x) p y es in
    let rb = ap r (read_behind pos f (pos x) p a es so h) in
    elim (cases_Bool (m y)) [
      | inl t ↦ rw t (put_behind pos f x p (r y) a (mapped pos r f (pos x) es) ms md h ∙ (mb ∙ rb))
      | inr t ↦
          let e : read pos f (pos x) a (mapped pos r f (pos x) es) ≡ r y =
          elim (mapped_at pos r f (pos x) a a es (inl refl)) [ inl i ↦ i ∙ sym (q y t) | inr i ↦ i ] in
          rw t (sym (read_behind pos f (pos x) p a (mapped pos r f (pos x) es) ms h)
          ∙ (ap (λ (z : V). read pos f p z (entries_behind pos (pos x) (mapped pos r f (pos x) es))) e ∙ (mb ∙ rb)))
    ]

pub renamed_reads : RenamedReads
renamed_reads pos es so d m r q f x p a = (
  (λ h. elim (cases_Bool (m (read pos f (pos x) a es))) [
    | inl t ↦ rw t (put_before pos f f x p _ a _ h (single_mapped pos r f (pos x) es d) ∙ mapped_before pos r f f (pos x) p a es h)
    | inr t ↦ rw t (mapped_before pos r f f (pos x) p a es h)
  ]),
  renamed_from pos es so d m r q f x p a,
  λ g b n. elim (cases_Bool (m (read pos f (pos x) a es))) [
    | inl t ↦ rw t (put_other pos f g x p _ b _ n ∙ mapped_other pos r f g (pos x) p b es n)
    | inr t ↦ rw t (mapped_other pos r f g (pos x) p b es n)
  ],
)

pub sorted_renamed : {V : Type 0} (pos : ℕ → ℕ) (m : V → Bool) (r : V → V) (f x : ℕ) (a : V) (es : List (Entry V)) → Sorted pos es → Sorted pos (renamed pos m r f x a es)
sorted_renamed pos m r f x a es s =
    elim (cases_Bool (m (read pos f (pos x) a es)))
    [ inl t ↦ rw t (sorted_put pos f x _ _ (sorted_mapped pos r f (pos x) es s)) | inr t ↦ rw t (sorted_mapped pos r f (pos x) es s) ]

pub single_renamed : {V : Type 0} (pos : ℕ → ℕ) (m : V → Bool) (r : V → V) (f x : ℕ) (a : V) (es : List (Entry V)) → Sorted pos es → Single pos es → Single pos (renamed pos m r f x a es)
single_renamed pos m r f x a es s d =
    elim (cases_Bool (m (read pos f (pos x) a es)))
    [ inl t ↦ rw t (single_put pos f x _ _ (sorted_mapped pos r f (pos x) es s) (single_mapped pos r f (pos x) es d)) | inr t ↦ rw t (single_mapped pos r f (pos x) es d) ]

pub from_renamed : {V : Type 0} (pos : ℕ → ℕ) (m : V → Bool) (r : V → V) (f x q : ℕ) (a : V) (es : List (Entry V)) → q ≤ pos x → AllFrom pos q es → AllFrom pos q (renamed pos m r f x a es)
from_renamed pos m r f x q a es h s =
    elim (cases_Bool (m (read pos f (pos x) a es)))
    [ inl t ↦ rw t (from_put pos f x q _ _ h (from_mapped pos r f (pos x) q es s)) | inr t ↦ rw t (from_mapped pos r f (pos x) q es s) ]

pub mapped_whole : {V : Type 0} (pos : ℕ → ℕ) (r : V → V) (f x p : ℕ) (a : V) (es : List (Entry V)) → AllFrom pos x es
    → read pos f p (r a) (mapped pos r f x es) ≡ r (read pos f p a es)
mapped_whole pos r f x p a [] h = refl
mapped_whole pos r f x p a (e ∷ es) h =
    let i = mapped_whole pos r f x p a es h.1 in
    let j = mapped_whole pos r f x p e.value es h.1 in
    grind arith
