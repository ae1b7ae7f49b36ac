-- A renaming that meets no value to change leaves the entries as they are.
use Rattle.std.proofs.Common.{◌≡◌, ℕ, suc, ◌<◌, ◌≤◌, Bool, true, false, cond, eqb, leb, List, [], ◌∷◌, sym, refl, ap, ◌∙◌, subst, inl, inr, le_refl, arith}
use Rattle.std.proofs.lemmas.Bool.{cases_Bool}
use Rattle.entries.specs.Entries.{Entry, both, hits, entry, read, AllFrom, Sorted, Single, Lacks, mapped, renamed}

-- no entry of f at or before q
pub read_none : {V : Type 0} (pos : ℕ → ℕ) (f q : ℕ) (a : V) (es : List (Entry V)) → AllFrom pos q es → Lacks pos f q es → read pos f q a es ≡ a
read_none pos f q a [] h n = refl
read_none pos f q a (e ∷ es) h n = let i = read_none pos f q a es h.1 n.1 in let k = n.0 in grind arith

pub mapped_idle : {V : Type 0} (pos : ℕ → ℕ) (m : V → Bool) (r : V → V) → ((v : V) → m v ≡ false → r v ≡ v) → (f x : ℕ) (A : ℕ → V) (es : List (Entry V))
    → Sorted pos es → Single pos es → ((p : ℕ) → x ≤ p → m (read pos f p (A p) es) ≡ false) → mapped pos r f x es ≡ es
mapped_idle pos m r q f x A [] s d h = refl
mapped_idle {V} pos m r q f x A (e ∷ es) s d h =
    let i = mapped_idle pos m r q f x (λ p. cond (hits pos f p e) e.value (A p)) es s.1 d.1 h in
    elim (cases_Bool (both (eqb e.field f) (leb x (pos e.version)))) [
      | inl t ↦
          let ef : e.field ≡ f = grind arith in
          let le : x ≤ pos e.version = grind arith in
          let hit : hits pos f (pos e.version) e ≡ true = grind arith in
          let own : read pos f (pos e.version) (A (pos e.version)) (e ∷ es) ≡ e.value =
          rw hit (read_none pos f (pos e.version) e.value es s.0 (subst (λ (n : ℕ). Lacks pos n (pos e.version) es) ef d.0)) in
          let same : r e.value ≡ e.value = q e.value (sym (ap m own) ∙ h (pos e.version) le) in
          rw t (ap (λ (v : V). entry e.version e.field v ∷ mapped pos r f x es) same ∙ ap (λ (l : List (Entry V)). e ∷ l) i)
      | inr t ↦ rw t (ap (λ (l : List (Entry V)). e ∷ l) i)
    ]

pub renamed_idle : {V : Type 0} (pos : ℕ → ℕ) (m : V → Bool) (r : V → V) → ((v : V) → m v ≡ false → r v ≡ v) → (f x : ℕ) (a : V) (es : List (Entry V))
    → Sorted pos es → Single pos es → ((p : ℕ) → pos x ≤ p → m (read pos f p a es) ≡ false) → renamed pos m r f x a es ≡ es
renamed_idle pos m r q f x a es s d h =
    let t = h (pos x) (le_refl (pos x)) in
    rw t (mapped_idle pos m r q f (pos x) (λ _. a) es s d h)

-- what is read from x on is the value at x, or an entry's behind x
pub read_source : {V : Type 0} (pos : ℕ → ℕ) (f x p : ℕ) (a : V) (P : V → Type 0) (es : List (Entry V))
    → P a → AllFrom pos (suc x) es → ((e : Entry V) → e.field ≡ f → x < pos e.version → P e.value) → P (read pos f p a es)
read_source pos f x p a P [] h l k = h
read_source pos f x p a P (e ∷ es) h l k =
    elim (cases_Bool (hits pos f p e)) [
      | inl t ↦
          let ef : e.field ≡ f = grind arith in
          rw t (read_source pos f x p e.value P es (k e ef l.0) l.1 k)
      | inr t ↦ rw t (read_source pos f x p a P es h l.1 k)
    ]
