-- What holds of the version of each entry goes over to lists that are written, renamed and parted.
use Rattle.std.proofs.Common.{ℕ, ◌<◌, eqb, ltb, leb, List, [], ◌∷◌, inl, inr, arith}
use Rattle.std.proofs.lemmas.Bool.{cases_Bool}
use Rattle.entries.specs.Entries.{Entry, both, sets, put, mapped, entries_before, entries_behind, EachVersion}

pub each_like : {V : Type 0} (P Q : ℕ → Type 0) (es : List (Entry V)) → ((v : ℕ) → P v → Q v) → EachVersion P es → EachVersion Q es
each_like P Q [] g h = tt
each_like P Q (e ∷ es) g h = (g e.version h.0, each_like P Q es g h.1)

pub each_put : {V : Type 0} (P : ℕ → Type 0) (pos : ℕ → ℕ) (f u : ℕ) (w : V) (es : List (Entry V)) → P u → EachVersion P es → EachVersion P (put pos f u w es)
each_put P pos f u w [] h k = (h, tt)
each_put P pos f u w (e ∷ es) h k =
    elim (cases_Bool (ltb (pos u) (pos e.version))) [
      | inl a ↦ rw a (h, k)
      | inr a ↦ rw a (elim (cases_Bool (sets pos f (pos u) e)) [ inl b ↦ rw b (h, k.1) | inr b ↦ rw b (k.0, each_put P pos f u w es h k.1) ])
    ]

pub each_mapped : {V : Type 0} (P : ℕ → Type 0) (pos : ℕ → ℕ) (r : V → V) (f x : ℕ) (es : List (Entry V)) → EachVersion P es → EachVersion P (mapped pos r f x es)
each_mapped P pos r f x [] h = tt
each_mapped P pos r f x (e ∷ es) h =
    elim (cases_Bool (both (eqb e.field f) (leb x (pos e.version))))
    [ inl t ↦ rw t (h.0, each_mapped P pos r f x es h.1) | inr t ↦ rw t (h.0, each_mapped P pos r f x es h.1) ]

pub each_before : {V : Type 0} (P : ℕ → Type 0) (pos : ℕ → ℕ) (x : ℕ) (es : List (Entry V)) → EachVersion P es → EachVersion (λ v. P v × (pos v < x)) (entries_before pos x es)
each_before P pos x [] h = tt
each_before P pos x (e ∷ es) h =
    elim (cases_Bool (ltb (pos e.version) x))
    [ inl t ↦ let l : pos e.version < x = grind arith in rw t ((h.0, l), each_before P pos x es h.1) | inr t ↦ rw t (each_before P pos x es h.1) ]

pub each_behind : {V : Type 0} (P : ℕ → Type 0) (pos : ℕ → ℕ) (x : ℕ) (es : List (Entry V)) → EachVersion P es → EachVersion (λ v. P v × (x < pos v)) (entries_behind pos x es)
each_behind P pos x [] h = tt
each_behind P pos x (e ∷ es) h =
    elim (cases_Bool (ltb x (pos e.version)))
    [ inl t ↦ let l : x < pos e.version = grind arith in rw t ((h.0, l), each_behind P pos x es h.1) | inr t ↦ rw t (each_behind P pos x es h.1) ]
