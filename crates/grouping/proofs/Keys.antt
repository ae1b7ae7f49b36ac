-- Keys are compared by the position of the group first, by the rank next.
use Rattle.std.proofs.Common.{◌≡◌, ℕ, ◌+◌, ◌*◌, ◌<◌, ltb, sym, ◌∙◌, inl, inr, arith}
use Rattle.std.proofs.lemmas.Bool.{cases_lt, lt-ltb, le-ltb}

pub keys_same : (p r s : ℕ) → ltb r s ≡ ltb (p * 64 + r) (p * 64 + s)
keys_same p r s = elim (cases_lt r s) [ inl t ↦ lt-ltb r s t ∙ sym (lt-ltb (p * 64 + r) (p * 64 + s) (omega arith)) | inr t ↦ le-ltb r s t ∙ sym (le-ltb (p * 64 + r) (p * 64 + s) (omega arith)) ]

pub keys_apart : (p q r s : ℕ) → (p ≡ q → ⊥) → r < 64 → s < 64 → ltb p q ≡ ltb (p * 64 + r) (q * 64 + s)
keys_apart p q r s d hr hs =
    elim (cases_lt p q) [
      | inl t ↦ lt-ltb p q t ∙ sym (lt-ltb (p * 64 + r) (q * 64 + s) (omega arith))
      | inr t ↦ let u : q < p = omega arith in le-ltb p q t ∙ sym (le-ltb (p * 64 + r) (q * 64 + s) (omega arith))
    ]
