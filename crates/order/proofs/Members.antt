-- Membership in lists of items, and how a new item right behind another changes it.
use Rattle.std.proofs.Common.{◌≡◌, ℕ, suc, true, false, ◌⊎◌, List, [], ◌∷◌, ◌++◌, length, sym, refl, ap, ◌∙◌, inl, inr}
use Rattle.std.proofs.lemmas.Bool.{cases_eq, cases_Bool, eq-eqb, ne_eqb, false≢true, both_ways}
use Rattle.order.specs.Items.{member, Distinct, earlier, behind}

pub member_cases : (x : ℕ) (xs : List ℕ) (a : ℕ) → member (x ∷ xs) a ≡ true → (x ≡ a) ⊎ ((x ≡ a → ⊥) × (member xs a ≡ true))
member_cases x xs a m =
    elim (cases_eq x a) [ inl e ↦ inl e | inr n ↦ inr (n, simp (ne_eqb x a n) at m) ]

-- the first is a member, and so is what the rest has
pub member_here : (x : ℕ) (xs : List ℕ) → member (x ∷ xs) x ≡ true
member_here x xs = simp (eq-eqb x x refl)

pub member_there : (x : ℕ) (xs : List ℕ) (a : ℕ) → member xs a ≡ true → member (x ∷ xs) a ≡ true
member_there x xs a m = elim (cases_eq x a) [ inl e ↦ simp (eq-eqb x a e) | inr d ↦ simp (ne_eqb x a d) m ]

pub long_behind : (xs : List ℕ) (a n : ℕ) → member xs a ≡ true → length (behind xs a n) ≡ suc (length xs)
long_behind [] a n m = absurd (false≢true m)
long_behind (x ∷ xs) a n m =
    elim (member_cases x xs a m)
    [ inl e ↦ simp (eq-eqb x a e) | inr d ↦ simp (ne_eqb x a d.0) (ap suc (long_behind xs a n d.1)) ]

pub member_behind_new : (xs : List ℕ) (a n : ℕ) → member xs a ≡ true → member (behind xs a n) n ≡ true
member_behind_new [] a n m = absurd (false≢true m)
member_behind_new (x ∷ xs) a n m =
    elim (member_cases x xs a m) [
      | inl e ↦ simp (eq-eqb x a e) (member_there x (n ∷ xs) n (member_here n xs))
      | inr d ↦ simp (ne_eqb x a d.0) (member_there x (behind xs a n) n (member_behind_new xs a n d.1))
    ]

pub member_behind_old : (xs : List ℕ) (a n b : ℕ) → member xs b ≡ true → member (behind xs a n) b ≡ true
member_behind_old [] a n b m = m
member_behind_old (x ∷ xs) a n b m =
    elim (cases_eq x a) [
      | inl e ↦ elim (member_cases x xs b m) [
        | inl k ↦ simp (eq-eqb x a e, eq-eqb x b k)
        | inr k ↦ simp (eq-eqb x a e) (member_there x (n ∷ xs) b (member_there n xs b k.1))
      ]
      | inr d ↦ elim (member_cases x xs b m) [
        | inl k ↦ simp (ne_eqb x a d, eq-eqb x b k)
        | inr k ↦ simp (ne_eqb x a d) (member_there x (behind xs a n) b (member_behind_old xs a n b k.1))
      ]
    ]

pub member_behind_cases : (xs : List ℕ) (a n b : ℕ) → member (behind xs a n) b ≡ true → (n ≡ b) ⊎ (member xs b ≡ true)
member_behind_cases [] a n b m = absurd (false≢true m)
member_behind_cases (x ∷ xs) a n b m =
    elim (cases_eq x a) [
      | inl e ↦ elim (member_cases x (n ∷ xs) b (simp (eq-eqb x a e) at m)) [
        | inl k ↦ inr (simp (eq-eqb x b k))
        | inr k ↦ elim (member_cases n xs b k.1) [ inl t ↦ inl t | inr t ↦ inr (member_there x xs b t.1) ]
      ]
      | inr d ↦ elim (member_cases x (behind xs a n) b (simp (ne_eqb x a d) at m)) [
        | inl k ↦ inr (simp (eq-eqb x b k))
        | inr k ↦ elim (member_behind_cases xs a n b k.1) [ inl t ↦ inl t | inr t ↦ inr (member_there x xs b t) ]
      ]
    ]

-- a new item changes the membership of no other
pub member_others : (xs : List ℕ) (g n y : ℕ) → (y ≡ n → ⊥) → member (behind xs g n) y ≡ member xs y
member_others xs g n y d =
    elim (cases_Bool (member xs y)) [
      | inl t ↦ member_behind_old xs g n y t ∙ sym t
      | inr f ↦ elim (cases_Bool (member (behind xs g n) y)) [
        | inl t ↦ elim (member_behind_cases xs g n y t) [ inl e ↦ absurd (d (sym e)) | inr k ↦ absurd (both_ways (member xs y) f k) ]
        | inr k ↦ k ∙ sym f
      ]
    ]

pub earlier_member : (xs : List ℕ) (a b : ℕ) → member xs b ≡ false → earlier xs a b ≡ false
earlier_member [] a b m = refl
earlier_member (x ∷ xs) a b m =
    elim (cases_eq x b) [
      | inl e ↦ absurd (both_ways (member (x ∷ xs) b) m (simp (eq-eqb x b e)))
      | inr n ↦ let k : member xs b ≡ false = simp (ne_eqb x b n) at m in
          elim (cases_eq x a) [ inl e ↦ simp (eq-eqb x a e, k) | inr d ↦ simp (ne_eqb x a d) (earlier_member xs a b k) ]
    ]

-- what stands earlier and what it stands before are both members
pub both_known : (xs : List ℕ) (a b : ℕ) → earlier xs a b ≡ true → (member xs a ≡ true) × (member xs b ≡ true)
both_known [] a b e = absurd (false≢true e)
both_known (x ∷ xs) a b e =
    elim (cases_eq x a) [
      | inl d ↦ (simp (eq-eqb x a d), member_there x xs b (simp (eq-eqb x a d) at e))
      | inr d ↦ let r = both_known xs a b (simp (ne_eqb x a d) at e) in (member_there x xs a r.0, member_there x xs b r.1)
    ]

pub behind_left : (xs ys : List ℕ) (a n : ℕ) → member xs a ≡ true → behind (xs ++ ys) a n ≡ behind xs a n ++ ys
behind_left [] ys a n m = absurd (false≢true m)
behind_left (x ∷ xs) ys a n m =
    elim (member_cases x xs a m)
    [ inl e ↦ simp (eq-eqb x a e) | inr d ↦ simp (ne_eqb x a d.0) (ap (λ (l : List ℕ). x ∷ l) (behind_left xs ys a n d.1)) ]

pub behind_right : (xs ys : List ℕ) (a n : ℕ) → member xs a ≡ false → behind (xs ++ ys) a n ≡ xs ++ behind ys a n
behind_right [] ys a n m = refl
behind_right (x ∷ xs) ys a n m =
    elim (cases_eq x a) [
      | inl e ↦ absurd (both_ways (member (x ∷ xs) a) m (simp (eq-eqb x a e)))
      | inr d ↦ simp (ne_eqb x a d) (ap (λ (l : List ℕ). x ∷ l) (behind_right xs ys a n (simp (ne_eqb x a d) at m)))
    ]

pub tail_distinct : (xs ys : List ℕ) → Distinct (xs ++ ys) → Distinct ys
tail_distinct [] ys d = d
tail_distinct (x ∷ xs) ys d = tail_distinct xs ys d.1
