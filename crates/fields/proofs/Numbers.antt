-- Fields of one number are one field.
use Rattle.std.proofs.Common.{◌≡◌, ℕ, ◌-◌, true, false, cond, eqb, sym, refl, ap, ◌∙◌, arith}
use Rattle.std.proofs.lemmas.Bool.{eq-eqb, ne_eqb}
use Rattle.fields.specs.declared.kinds.Field.{Field}
use Rattle.fields.specs.declared.kinds.Field.TheVariants.{Left, Right, Third, FirstBack, SecondBack, Number}
use Rattle.fields.specs.Fields.{field_number}

abbrev field_of : ℕ → Field
field_of n =
    cond (eqb n 0) Left (cond (eqb n 1) Right (cond (eqb n 2) Third (cond (eqb n 3) FirstBack (cond (eqb n 4) SecondBack (Number (n - 5))))))

field_of_number : (a : Field) → field_of (field_number a) ≡ a
field_of_number Left = refl
field_of_number Right = refl
field_of_number Third = refl
field_of_number FirstBack = refl
field_of_number SecondBack = refl
field_of_number (Number n) = grind arith

pub same_field : (a b : Field) → field_number a ≡ field_number b → a ≡ b
same_field a b e = sym (field_of_number a) ∙ (ap field_of e ∙ field_of_number b)

pub same_number : (a b : Field) → a ≡ b → eqb (field_number a) (field_number b) ≡ true
same_number a b e = eq-eqb (field_number a) (field_number b) (ap field_number e)

pub other_number : (a b : Field) → (a ≡ b → ⊥) → eqb (field_number a) (field_number b) ≡ false
other_number a b n = ne_eqb (field_number a) (field_number b) (λ e. n (same_field a b e))
