-- What the decision over a new item says of the call and of its answer.
use Rattle.std.proofs.Common.{◌≡◌, ℕ, ◌<◌, ◌≤◌, List, length, Some, None, Ok, Option, sym, ap, ◌∙◌, inl, inr, arith}
use Rattle.std.proofs.lemmas.Bool.{cases_lt, lt-ltb, le-ltb, cond-true, cond-false}
use Rattle.refusals.specs.declared.kinds.OrderRefusal.{OrderRefusal}
use Rattle.refusals.specs.declared.kinds.OrderRefusal.TheVariants.{UnknownItem, Full}
use Rattle.order.specs.Items.{after_answer}
use Rattle.linked_lists.specs.Decisions.{after_refusal}

apart : (e : OrderRefusal) → ◌≡◌ {A = Option OrderRefusal} (Some e) None → ⊥
apart e q = let z : ◌≡◌ {A = ℕ} 0 1 = cc in absurd (omega arith)

-- a new item behind a known one, with room for it, and the answer
pub record Granted (xs : List ℕ) (count limit a : ℕ) : Type 0 where
  pub known : a < count
  pub room : count < limit
  pub answer : Ok count ≡ after_answer xs limit a

module _ (xs : List ℕ) (count limit a : ℕ) (long : length xs ≡ count) where
  granted_answer : a < count → count < limit → Ok count ≡ after_answer xs limit a
  granted_answer h k =
      sym (cond-true _ _ _ (lt-ltb a (length xs) (omega arith)) ∙ (cond-true _ _ _ (lt-ltb (length xs) limit (omega arith)) ∙ ap (λ (m : ℕ). Ok m) long))

  full_is : a < count → limit ≤ count → after_refusal count limit a ≡ Some Full
  full_is h k = cond-true _ _ _ (lt-ltb a count h) ∙ cond-false _ _ _ (le-ltb count limit k)

  pub granted : after_refusal count limit a ≡ None → Granted xs count limit a
  granted e =
      elim (cases_lt a count) [
        | inl t ↦ elim (cases_lt count limit) [
          | inl u ↦ record { known = t; room = u; answer = granted_answer t u }
          | inr u ↦ absurd (apart Full (sym (full_is t u) ∙ e))
        ]
        | inr t ↦ absurd (apart UnknownItem (sym (cond-false _ _ _ (le-ltb a count t)) ∙ e))
      ]
