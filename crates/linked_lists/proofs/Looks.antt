-- What a chain says of its list.
use Rattle.std.proofs.Common.{◌≡◌, ℕ, suc, ◌≤◌, true, false, ltb, List, [], ◌∷◌, Option, sym, ap, ◌∙◌, subst, inl, inr, arith}
use Rattle.std.proofs.lemmas.Bool.{cases_Bool, eq-eqb, ne_eqb, lt-ltb, le-ltb, false≢true}
use Rattle.linked_lists.specs.Chain.{Linked, Above}
use Rattle.order.proofs.Members.{member_cases, earlier_member}
use Rattle.order.specs.Items.{member, earlier, following, front}

pub member_above : (lab : ℕ → ℕ) (lo : ℕ) (xs : List ℕ) (a : ℕ) → Above lab lo xs → member xs a ≡ true → lo ≤ lab a
member_above lab lo [] a h m = absurd (false≢true m)
member_above lab lo (x ∷ xs) a h m =
    elim (member_cases x xs a m) [
      | inl e ↦ subst (λ (k : ℕ). lo ≤ lab k) e h.0
      | inr n ↦ omega (arith, h.0, member_above lab (suc (lab x)) xs a h.1 n.1)
    ]

-- what is no member
pub gone : (xs : List ℕ) (b : ℕ) → (member xs b ≡ true → ⊥) → member xs b ≡ false
gone xs b n = elim (cases_Bool (member xs b)) [ inl t ↦ absurd (n t) | inr f ↦ f ]

pub above_earlier : (lab : ℕ → ℕ) (lo : ℕ) (xs : List ℕ) (a b : ℕ) → Above lab lo xs → member xs a ≡ true → member xs b ≡ true →
    ltb (lab a) (lab b) ≡ earlier xs a b
above_earlier lab lo [] a b h m k = absurd (false≢true m)
above_earlier lab lo (x ∷ xs) a b h m k =
    elim (member_cases x xs a m) [
      | inl e ↦ elim (member_cases x xs b k) [
        | inl d ↦ simp (eq-eqb x a e)
            (le-ltb (lab a) (lab b) (subst (λ (z : ℕ). lab z ≤ lab a) (sym e ∙ d) (omega arith))
            ∙ sym (gone xs b (λ t. let u = member_above lab (suc (lab x)) xs b h.1 t in let v = ap lab d in omega arith)))
        | inr d ↦ simp (eq-eqb x a e, d.1)
            (lt-ltb (lab a) (lab b) (let u = member_above lab (suc (lab x)) xs b h.1 d.1 in let v = ap lab e in omega arith))
      ]
      | inr e ↦ elim (member_cases x xs b k) [
        | inl d ↦ simp (ne_eqb x a e.0)
            (le-ltb (lab a) (lab b) (let u = member_above lab (suc (lab x)) xs a h.1 e.1 in let v = ap lab d in omega arith)
            ∙ sym (earlier_member xs a b (gone xs b (λ t. let u = member_above lab (suc (lab x)) xs b h.1 t in let v = ap lab d in omega arith))))
        | inr d ↦ simp (ne_eqb x a e.0) (above_earlier lab (suc (lab x)) xs a b h.1 e.1 d.1)
      ]
    ]

pub linked_first : (f : ℕ → Option ℕ) (o : Option ℕ) (xs : List ℕ) → Linked f o xs → o ≡ front xs
linked_first f o [] h = h
linked_first f o (x ∷ xs) h = h.0

pub linked_following : (f : ℕ → Option ℕ) (o : Option ℕ) (xs : List ℕ) (a : ℕ) → Linked f o xs → member xs a ≡ true → f a ≡ following xs a
linked_following f o [] a h m = absurd (false≢true m)
linked_following f o (x ∷ xs) a h m =
    elim (member_cases x xs a m) [
      | inl e ↦ simp (eq-eqb x a e) (ap f (sym e) ∙ linked_first f (f x) xs h.1)
      | inr n ↦ simp (ne_eqb x a n.0) (linked_following f (f x) xs a h.1 n.1)
    ]
