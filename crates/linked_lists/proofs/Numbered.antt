-- A list that holds exactly the numbers below its length.
use Rattle.std.proofs.Common.{◌≡◌, ℕ, ◌<◌, true, List, length, sym, ◌∙◌, inl, inr, arith}
use Rattle.std.proofs.lemmas.Bool.{cases_lt, cases_Bool, lt-ltb, le-ltb}
use Rattle.order.specs.Items.{member, known}

pub numbered_list : (xs : List ℕ) (n : ℕ) → length xs ≡ n → ((a : ℕ) → a < n → member xs a ≡ true) → ((a : ℕ) → member xs a ≡ true → a < n) →
    (a : ℕ) → member xs a ≡ known xs a
numbered_list xs n e k w a =
    elim (cases_lt a n) [
      | inl t ↦ k a t ∙ sym (lt-ltb a (length xs) (omega arith))
      | inr t ↦ elim (cases_Bool (member xs a)) [
        | inl m ↦ let q = w a m in absurd (omega arith)
        | inr f ↦ f ∙ sym (le-ltb a (length xs) (omega arith))
      ]
    ]
