-- A new item right behind another stands between it and the one behind that.
use Rattle.std.proofs.Common.{◌≡◌, ℕ, true, ltb, List, [], ◌∷◌, length, Some, Ok, Err, Option, Result, sym, refl, ap, ◌∙◌, subst, inl, inr, arith}
use Rattle.std.proofs.lemmas.Bool.{cases_Bool, eq-eqb, ne_eqb, le-ltb, false≢true, both_ways, cond-true, cond-false}
use Rattle.refusals.specs.declared.kinds.OrderRefusal.{OrderRefusal}
use Rattle.order.specs.Items.{member, known, following, behind, earlier, after_answer, successor_answer}
use Rattle.order.proofs.Members.{member_cases, member_here, member_there, long_behind}
use Rattle.order_steps.specs.Steps.{Between}

following_new : (xs : List ℕ) (a n : ℕ) → member xs a ≡ true → following (behind xs a n) a ≡ Some n
following_new [] a n m = absurd (false≢true m)
following_new (x ∷ xs) a n m =
    elim (member_cases x xs a m) [
      | inl e ↦ simp (eq-eqb x a e)
      | inr d ↦ simp (ne_eqb x a d.0) (following_new xs a n d.1)
    ]

following_onward : (xs : List ℕ) (a n : ℕ) → member xs a ≡ true → (member xs n ≡ true → ⊥) → following (behind xs a n) n ≡ following xs a
following_onward [] a n m new = absurd (false≢true m)
following_onward (x ∷ xs) a n m new =
    let xn : x ≡ n → ⊥ = λ e. new (subst (λ (k : ℕ). member (x ∷ xs) k ≡ true) e (member_here x xs)) in
    elim (member_cases x xs a m) [
      | inl e ↦ simp (eq-eqb x a e, ne_eqb x n xn, eq-eqb n n refl)
      | inr d ↦ simp (ne_eqb x a d.0, ne_eqb x n xn) (following_onward xs a n d.1 (λ k. new (member_there x xs n k)))
    ]

earlier_new : (xs : List ℕ) (a n : ℕ) → member xs a ≡ true → earlier (behind xs a n) a n ≡ true
earlier_new [] a n m = absurd (false≢true m)
earlier_new (x ∷ xs) a n m =
    elim (member_cases x xs a m) [
      | inl e ↦ simp (eq-eqb x a e, eq-eqb n n refl)
      | inr d ↦ simp (ne_eqb x a d.0) (earlier_new xs a n d.1)
    ]

ok_same : {A : Type 0} (x y : A) → ◌≡◌ {A = Result A OrderRefusal} (Ok x) (Ok y) → x ≡ y
ok_same x y e = cc

ok_apart : {A : Type 0} (e : OrderRefusal) (k : A) → ◌≡◌ {A = Result A OrderRefusal} (Ok k) (Err e) → ⊥
ok_apart e k q = let z : ◌≡◌ {A = ℕ} 0 1 = cc in absurd (omega arith)

module _ (xs : List ℕ) (a : ℕ) where
  next_is : (o : Option ℕ) (r : Result (Option ℕ) OrderRefusal) → r ≡ successor_answer xs a → r ≡ Ok o → (known xs a ≡ true) × (following xs a ≡ o)
  next_is o r e was =
      elim (cases_Bool (known xs a)) [
        | inl t ↦ (t, ok_same _ _ (sym (sym was ∙ (e ∙ cond-true _ _ _ t))))
        | inr f ↦ absurd (ok_apart _ _ (sym was ∙ (e ∙ cond-false _ _ _ f)))
      ]

  number_is : (limit n : ℕ) (r : Result ℕ OrderRefusal) → known xs a ≡ true → r ≡ after_answer xs limit a → r ≡ Ok n → n ≡ length xs
  number_is limit n r t e was =
      elim (cases_Bool (ltb (length xs) limit)) [
        | inl u ↦ ok_same _ _ (sym was ∙ (e ∙ (cond-true _ _ _ t ∙ cond-true _ _ _ u)))
        | inr u ↦ absurd (ok_apart _ _ (sym was ∙ (e ∙ (cond-true _ _ _ t ∙ cond-false _ _ _ u))))
      ]

  pub between : (ys : List ℕ) (limit n : ℕ) (o : Option ℕ) (s : Result (Option ℕ) OrderRefusal) (r : Result ℕ OrderRefusal) →
      ((b : ℕ) → member xs b ≡ known xs b) → s ≡ successor_answer xs a → s ≡ Ok o → r ≡ after_answer xs limit a → r ≡ Ok n → ys ≡ behind xs a n → Between xs ys a n o
  between ys limit n o s r numbered es was_s er was_r ey =
      let k = next_is o s es was_s in
      let m : member xs a ≡ true = numbered a ∙ k.0 in
      let l : n ≡ length xs = number_is limit n r k.0 er was_r in
      let new : member xs n ≡ true → ⊥ = λ q. both_ways (member xs n) (numbered n ∙ le-ltb n (length xs) (omega arith)) q in
      record {
        fresh = l;
        count = ap length ey ∙ long_behind xs a n m;
        was = k.1;
        behind = ap (λ (q : List ℕ). following q a) ey ∙ following_new xs a n m;
        onward = ap (λ (q : List ℕ). following q n) ey ∙ (following_onward xs a n m new ∙ k.1);
        before = ap (λ (q : List ℕ). earlier q a n) ey ∙ earlier_new xs a n m;
      }
