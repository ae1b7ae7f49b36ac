-- What the walks along a group find.
use Rattle.std.proofs.Common.{◌≡◌, ℕ, zero, suc, ◌+◌, ◌-◌, ◌<◌, ◌≤◌, true, List, [], ◌∷◌, ◌++◌, length, Some, None, Option, sym, refl, ap, ◌∙◌, subst, inl, inr, arith}
use Rattle.std.proofs.lemmas.Bool.{cases_eq, eq-eqb, ne_eqb, false≢true}
use Rattle.grouping.proofs.Loops.{back_first, back_out, back_start, run_none, run_out}
use Rattle.grouping.specs.Blocks.{Inside}
use Rattle.grouping.specs.Groups.{back_to, back_step, first_of, run_of}
use Rattle.linked_lists.proofs.Insert.{same_some}
use Rattle.linked_lists.specs.Chain.{Linked, Backed, walk}
use Rattle.order.proofs.Members.{member_cases, member_here, member_there}
use Rattle.order.specs.Items.{member, behind}

-- the first of a list that has one
pub head_of : List ℕ → ℕ
head_of [] = 0
head_of (y ∷ ys) = y

pub head_behind : (b : List ℕ) (a n : ℕ) → head_of (behind b a n) ≡ head_of b
unfolding head_of
head_behind [] a n = refl
head_behind (y ∷ ys) a n = elim (cases_eq y a) [ inl e ↦ simp (eq-eqb y a e) | inr d ↦ simp (ne_eqb y a d) ]

pub head_in : (b : List ℕ) → 0 < length b → member b (head_of b) ≡ true
unfolding head_of
head_in [] h = absurd (omega arith)
head_in (y ∷ ys) h = member_here y ys

-- from a piece on
pub linked_from : (f : ℕ → Option ℕ) (o : Option ℕ) (xs ys zs : List ℕ) → 0 < length ys → Linked f o (xs ++ (ys ++ zs)) → Linked f (Some (head_of ys)) (ys ++ zs)
unfolding head_of
linked_from f o [] [] zs h l = absurd (omega arith)
linked_from f o [] (y ∷ ys) zs h l = (refl, l.1)
linked_from f o (x ∷ xs) ys zs h l = linked_from f (f x) xs ys zs h l.1

pub walk_is : (f : ℕ → Option ℕ) (o : Option ℕ) (ys zs : List ℕ) → Linked f o (ys ++ zs) → walk f (length ys) o ≡ ys
walk_is f o [] zs h = refl
walk_is f o (y ∷ ys) zs h = rw h.0 (ap (λ (l : List ℕ). y ∷ l) (walk_is f (f y) ys zs h.1))

pub run_is : (f : ℕ → Option ℕ) (grp : ℕ → ℕ) (g k : ℕ) (o : Option ℕ) (ys zs : List ℕ) → Linked f o (ys ++ zs) → Inside grp g ys →
    ((x : ℕ) → member zs x ≡ true → grp x ≡ g → ⊥) → length ys ≤ k → run_of f grp g k o ≡ ys
run_is f grp g k o [] [] h i out l = run_none f grp g k o h
run_is f grp g k o [] (z ∷ zs) h i out l = run_out f grp g k z o h.0 (out z (member_here z zs))
run_is f grp g zero o (y ∷ ys) zs h i out l = absurd (omega arith)
run_is f grp g (suc k) o (y ∷ ys) zs h i out l =
    ap (run_of f grp g (suc k)) h.0 ∙ simp (eq-eqb (grp y) g i.0) (ap (λ (q : List ℕ). y ∷ q) (run_is f grp g k (f y) ys zs h.1 i.1 out (omega arith)))

-- back along a piece
module _ (p : ℕ → Option ℕ) (grp : ℕ → ℕ) (g : ℕ) where
  step_back : (k x y : ℕ) → p x ≡ Some y → grp y ≡ g → back_to p grp g (suc k) x ≡ back_to p grp g k y
  step_back k x y e d = ap (back_step grp g (back_to p grp g k) x) e ∙ simp (eq-eqb (grp y) g d)

  reach : (x : ℕ) (zs ws : List ℕ) (a : ℕ) → Backed p (Some x) (zs ++ ws) → grp x ≡ g → Inside grp g zs → member zs a ≡ true →
      (i : ℕ) × ((i ≤ length zs) × ((k : ℕ) → back_to p grp g (i + k) a ≡ back_to p grp g k x))
  reach x [] ws a b e i m = absurd (false≢true m)
  reach x (z ∷ zs) ws a b e i m =
      elim (member_cases z zs a m) [
        | inl d ↦ (1, (omega arith, λ k. ap (λ (q : ℕ). back_to p grp g (1 + k) q) (sym d) ∙ (ap (λ (q : ℕ). back_to p grp g q z) (one k) ∙ step_back k z x b.0 e)))
        | inr d ↦
            let r = reach z zs ws a b.1 i.0 i.1 d.1 in
            let l = r.1.0 in
            (suc r.0, (omega arith, λ k. ap (λ (q : ℕ). back_to p grp g q a) (shift r.0 k) ∙ (r.1.1 (suc k) ∙ step_back k z x b.0 e)))
      ]
    where
      one : (k : ℕ) → 1 + k ≡ suc k
      one k = omega arith

      shift : (i k : ℕ) → suc i + k ≡ i + suc k
      shift i k = omega arith

  -- what stands before a piece is outside the group
  stops : (o : Option ℕ) (xs : List ℕ) (y : ℕ) (ys : List ℕ) → Backed p o (xs ++ (y ∷ ys)) → ((x : ℕ) → member xs x ≡ true → grp x ≡ g → ⊥) →
      ((x : ℕ) → o ≡ Some x → grp x ≡ g → ⊥) → (x : ℕ) → p y ≡ Some x → grp x ≡ g → ⊥
  stops o [] y ys b out w x e = w x (sym b.0 ∙ e)
  stops o (z ∷ zs) y ys b out w x e =
      stops (Some z) zs y ys b.1 (λ q m. out q (member_there z zs q m)) (λ q d. out q (subst (λ (k : ℕ). member (z ∷ zs) k ≡ true) (same_some z q d) (member_here z zs))) x e

  stay : (k y : ℕ) (o : Option ℕ) → p y ≡ o → ((x : ℕ) → p y ≡ Some x → grp x ≡ g → ⊥) → y ≡ back_to p grp g k y
  stay k y None e w = back_first p grp g k y e
  stay k y (Some x) e w = back_out p grp g k y x e (w x e)

  pub first_is : (xs ys zs : List ℕ) (a : ℕ) → Backed p None (xs ++ (ys ++ zs)) → Inside grp g ys → ((x : ℕ) → member xs x ≡ true → grp x ≡ g → ⊥) →
      member ys a ≡ true → length ys ≤ 32 → first_of p grp g a ≡ head_of ys
  unfolding head_of
  first_is xs [] zs a b i out m l = absurd (false≢true m)
  first_is xs (y ∷ ys) zs a b i out m l =
      let w : (x : ℕ) → p y ≡ Some x → grp x ≡ g → ⊥ = stops None xs y (ys ++ zs) b out (λ x e. let z : ◌≡◌ {A = ℕ} 0 1 = cc in absurd (omega arith)) in
      let s : (k : ℕ) → y ≡ back_to p grp g k y = λ k. stay k y (p y) refl w in
      sym (back_start p grp g a)
      ∙ (elim (member_cases y ys a m) [
        | inl e ↦ ap (λ (q : ℕ). back_to p grp g 32 q) (sym e) ∙ sym (s 32)
        | inr d ↦
            let r = reach y ys zs a (skip None xs b) i.0 i.1 d.1 in
            let q = r.1.0 in
            let k : r.0 + (32 - r.0) ≡ 32 = omega arith in
            ap (λ (t : ℕ). back_to p grp g t a) (sym k) ∙ (r.1.1 (32 - r.0) ∙ sym (s (32 - r.0)))
      ])
    where
      skip : (o : Option ℕ) (xs : List ℕ) → Backed p o (xs ++ ((y ∷ ys) ++ zs)) → Backed p (Some y) (ys ++ zs)
      skip o [] b = b.1
      skip o (x ∷ xs) b = skip (Some x) xs b.1

  pub first_stops : (xs ys zs : List ℕ) (a : ℕ) → Backed p None (xs ++ (ys ++ zs)) → ((x : ℕ) → member xs x ≡ true → grp x ≡ g → ⊥) → member ys a ≡ true →
      (x : ℕ) → p (head_of ys) ≡ Some x → grp x ≡ g → ⊥
  unfolding head_of
  first_stops xs [] zs a b out m = absurd (false≢true m)
  first_stops xs (y ∷ ys) zs a b out m = stops None xs y (ys ++ zs) b out (λ x e. let z : ◌≡◌ {A = ℕ} 0 1 = cc in absurd (omega arith))
