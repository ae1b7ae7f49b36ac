-- The laws of the list that a version order means.
use Rattle.std.proofs.Common.{◌≡◌, ℕ, true, false, ◌⊎◌, [], ◌∷◌, sym, refl, ◌∙◌, inl, inr, arith}
use Rattle.std.proofs.lemmas.Bool.{cases_eq, cases_lt, cases_Bool, eq-eqb, ne_eqb, lt-ltb, ltb-true}
use Rattle.order.specs.Items.{member, earlier, position}
use Rattle.order.specs.Laws.{BeforeIsAnOrder, NewItemPartsNothing}
use Rattle.order.proofs.Members.{member_there, member_others, both_known}
use Rattle.order.proofs.Positions.{earlier_position, position_apart}

pub before_is_an_order : BeforeIsAnOrder
before_is_an_order xs d = (never, through, either)
  where
    never : (a : ℕ) → earlier xs a a ≡ false
    never a =
        elim (cases_Bool (earlier xs a a)) [
          | inl t ↦
              let k = both_known xs a a t in
              let u = ltb-true _ _ (sym (earlier_position xs a a d k.0 k.0) ∙ t) in
              absurd (omega arith)
          | inr f ↦ f
        ]

    through : (a b c : ℕ) → earlier xs a b ≡ true → earlier xs b c ≡ true → earlier xs a c ≡ true
    through a b c s t =
        let k = both_known xs a b s in
        let m = both_known xs b c t in
        let u = ltb-true _ _ (sym (earlier_position xs a b d k.0 k.1) ∙ s) in
        let v = ltb-true _ _ (sym (earlier_position xs b c d m.0 m.1) ∙ t) in
        earlier_position xs a c d k.0 m.1 ∙ lt-ltb _ _ (omega arith)

    either : (a b : ℕ) → member xs a ≡ true → member xs b ≡ true → (a ≡ b → ⊥) → (earlier xs a b ≡ true) ⊎ (earlier xs b a ≡ true)
    either a b ma mb ne =
        elim (cases_lt (position xs a) (position xs b)) [
          | inl t ↦ inl (earlier_position xs a b d ma mb ∙ lt-ltb _ _ t)
          | inr t ↦
              let ap' : position xs b ≡ position xs a → ⊥ = λ e. ne (position_apart xs a b ma mb (sym e)) in
              inr (earlier_position xs b a d mb ma ∙ lt-ltb _ _ (omega arith))
        ]

pub new_item_parts_nothing : NewItemPartsNothing
new_item_parts_nothing [] g n x y d new hx hy = refl
new_item_parts_nothing (z ∷ zs) g n x y d new hx hy =
    let ih = new_item_parts_nothing zs g n x y d.1 (λ m. new (member_there z zs n m)) hx hy in
    let nx : n ≡ x → ⊥ = λ e. hx (sym e) in
    let ny : n ≡ y → ⊥ = λ e. hy (sym e) in
    elim (cases_eq z g) [
      | inl e ↦ elim (cases_eq z x) [
        | inl k ↦ simp (eq-eqb z g e, eq-eqb z x k, ne_eqb n y ny)
        | inr k ↦ simp (eq-eqb z g e, ne_eqb z x k, ne_eqb n x nx)
      ]
      | inr e ↦ elim (cases_eq z x) [
        | inl k ↦ simp (ne_eqb z g e, eq-eqb z x k) (member_others zs g n y hy)
        | inr k ↦ simp (ne_eqb z g e, ne_eqb z x k) ih
      ]
    ]
