-- Positions in a list without repeats: standing earlier is standing at a smaller position.
use Rattle.std.proofs.Common.{◌≡◌, ℕ, suc, true, false, ltb, List, [], ◌∷◌, sym, ◌∙◌, subst, inl, inr, arith}
use Rattle.std.proofs.lemmas.Bool.{cases_lt, eq-eqb, ne_eqb, lt-ltb, le-ltb, false≢true}
use Rattle.order.specs.Items.{member, Distinct, earlier, position}
use Rattle.order.proofs.Members.{member_cases, earlier_member}

-- two items at one position are one
pub position_apart : (xs : List ℕ) (g h : ℕ) → member xs g ≡ true → member xs h ≡ true → position xs g ≡ position xs h → g ≡ h
position_apart [] g h mg mh e = absurd (false≢true mg)
position_apart (x ∷ xs) g h mg mh e =
    elim (member_cases x xs g mg) [
      | inl a ↦ elim (member_cases x xs h mh) [
        | inl b ↦ sym a ∙ b
        | inr b ↦ let z : 0 ≡ suc (position xs h) = simp (eq-eqb x g a, ne_eqb x h b.0) at e in absurd (omega arith)
      ]
      | inr a ↦ elim (member_cases x xs h mh) [
        | inl b ↦ let z : suc (position xs g) ≡ 0 = simp (ne_eqb x g a.0, eq-eqb x h b) at e in absurd (omega arith)
        | inr b ↦
            let z : suc (position xs g) ≡ suc (position xs h) = simp (ne_eqb x g a.0, ne_eqb x h b.0) at e in
            position_apart xs g h a.1 b.1 (omega arith)
      ]
    ]

ltb_suc : (p q : ℕ) → ltb (suc p) (suc q) ≡ ltb p q
ltb_suc p q = elim (cases_lt p q) [ inl t ↦ lt-ltb (suc p) (suc q) (omega arith) ∙ sym (lt-ltb p q t) | inr t ↦ le-ltb (suc p) (suc q) (omega arith) ∙ sym (le-ltb p q t) ]

-- standing earlier is standing at a smaller position
pub earlier_position : (xs : List ℕ) (g h : ℕ) → Distinct xs → member xs g ≡ true → member xs h ≡ true → earlier xs g h ≡ ltb (position xs g) (position xs h)
earlier_position [] g h d mg mh = absurd (false≢true mg)
earlier_position (x ∷ xs) g h d mg mh =
    elim (member_cases x xs g mg) [
      | inl a ↦ elim (member_cases x xs h mh) [
        | inl b ↦ simp (eq-eqb x g a, eq-eqb x h b) (subst (λ (k : ℕ). member xs k ≡ false) b d.0 ∙ sym (le-ltb 0 0 (omega arith)))
        | inr b ↦ simp (eq-eqb x g a, ne_eqb x h b.0, b.1) (sym (lt-ltb 0 (suc (position xs h)) (omega arith)))
      ]
      | inr a ↦ elim (member_cases x xs h mh) [
        | inl b ↦ simp (ne_eqb x g a.0, eq-eqb x h b)
            (earlier_member xs g h (subst (λ (k : ℕ). member xs k ≡ false) b d.0) ∙ sym (le-ltb (suc (position xs g)) 0 (omega arith)))
        | inr b ↦ simp (ne_eqb x g a.0, ne_eqb x h b.0) (earlier_position xs g h d.1 a.1 b.1 ∙ sym (ltb_suc (position xs g) (position xs h)))
      ]
    ]
