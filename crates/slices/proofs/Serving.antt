-- The test whether a copy serves a position tells.
use Rattle.std.proofs.Common.{◌≡◌, ℕ, zero, suc, ◌<◌, ◌≤◌, Bool, true, false, cond, eqb, ltb, leb, ◌⊎◌, sym, refl, ap, ◌∙◌, subst, inl, inr, not-suc-le-zero, arith}
use Rattle.std.proofs.lemmas.Bool.{cases_Bool, cases_eq, eq-eqb, le-leb, lt-ltb}
use Rattle.entries.specs.Entries.{both}
use Rattle.slices.specs.Copies.{Copies, farther, ServingTells}

pub both_true : (a b : Bool) → both a b ≡ true → (a ≡ true) × (b ≡ true)
both_true true b h = (refl, h)
both_true false b h = absurd (let z : ◌≡◌ {A = ℕ} 0 1 = cc in omega arith)

pub both_false : (a b : Bool) → both a b ≡ false → (a ≡ false) ⊎ (b ≡ false)
both_false true b h = inr h
both_false false b h = inl refl

pub lt_is : (a b : ℕ) → ltb a b ≡ true → a < b
lt_is a b h = grind arith

pub le_is : (a b : ℕ) → leb a b ≡ true → a ≤ b
le_is a b h = grind arith

pub eq_is : (a b : ℕ) → eqb a b ≡ true → a ≡ b
eq_is a b h = grind arith

farther_true : (pos : ℕ → ℕ) (M : Copies) (p i m : ℕ)
    → ((j : ℕ) → j < m → (M.copy j).serial ≡ (M.copy i).serial → pos (M.copy i).lo < pos (M.copy j).lo → p < pos (M.copy j).lo)
    → farther pos M p i m ≡ true
farther_true pos M p i zero h = refl
farther_true pos M p i (suc m) h =
    let r = farther_true pos M p i m (λ j l. h j (omega (arith, l))) in
    elim (cases_Bool (both (eqb (M.copy m).serial (M.copy i).serial) (ltb (pos (M.copy i).lo) (pos (M.copy m).lo)))) [
      | inl t ↦
          let b = both_true (eqb (M.copy m).serial (M.copy i).serial) (ltb (pos (M.copy i).lo) (pos (M.copy m).lo)) t in
          let l = h m (omega arith) (eq_is _ _ b.0) (lt_is _ _ b.1) in
          rw (t, lt-ltb p (pos (M.copy m).lo) l) r
      | inr t ↦ rw t r
    ]

true_farther : (pos : ℕ → ℕ) (M : Copies) (p i m : ℕ) → farther pos M p i m ≡ true
    → (j : ℕ) → j < m → (M.copy j).serial ≡ (M.copy i).serial → pos (M.copy i).lo < pos (M.copy j).lo → p < pos (M.copy j).lo
true_farther pos M p i zero h j l e g = absurd (not-suc-le-zero l)
true_farther pos M p i (suc m) h j l e g =
    let b = both_true (cond (both (eqb (M.copy m).serial (M.copy i).serial) (ltb (pos (M.copy i).lo) (pos (M.copy m).lo))) (ltb p (pos (M.copy m).lo)) true) (farther pos M p i m) h in
    elim (cases_eq j m) [
      | inl q ↦
          let e' : (M.copy m).serial ≡ (M.copy i).serial = ap (λ (z : ℕ). (M.copy z).serial) (sym q) ∙ e in
          let g' : pos (M.copy i).lo < pos (M.copy m).lo = subst (λ (z : ℕ). pos (M.copy i).lo < pos (M.copy z).lo) q g in
          let t : ltb p (pos (M.copy m).lo) ≡ true = rw (eq-eqb _ _ e', lt-ltb _ _ g') at b.0 in
          subst (λ (z : ℕ). p < pos (M.copy z).lo) (sym q) (lt_is _ _ t)
      | inr n ↦ true_farther pos M p i m b.1 j (omega (arith, l, n)) e g
    ]

pub serving_tells : ServingTells
serving_tells pos M p i = (
  (λ s. rw (lt-ltb i M.total s.0, le-leb (pos (M.copy i).lo) p s.1, farther_true pos M p i M.total s.2, lt-ltb p M.versions s.3) refl),
  (λ h.
      let a = both_true (ltb i M.total) (both (leb (pos (M.copy i).lo) p) (both (farther pos M p i M.total) (ltb p M.versions))) h in
      let b = both_true (leb (pos (M.copy i).lo) p) (both (farther pos M p i M.total) (ltb p M.versions)) a.1 in
      let c = both_true (farther pos M p i M.total) (ltb p M.versions) b.1 in
      (lt_is _ _ a.0, le_is _ _ b.0, true_farther pos M p i M.total c.0, lt_is _ _ c.1)),
)
