-- One item more right behind another: what the links and the labels then say.
use Rattle.std.proofs.Common.{◌≡◌, ℕ, zero, suc, ◌^◌, ◌<◌, ◌≤◌, true, ◌⊎◌, List, [], ◌∷◌, length, Some, None, Option, sym, refl, ap, ◌∙◌, subst, inl, inr, arith}
use Rattle.std.proofs.lemmas.Bool.{cases_eq, eq-eqb, ne_eqb, false≢true, both_ways}
use Rattle.linked_lists.proofs.Looks.{gone}
use Rattle.linked_lists.specs.Chain.{Linked, Backed, Above, walk}
use Rattle.order.proofs.Members.{member_cases, member_here, member_there, member_behind_cases}
use Rattle.order.specs.Items.{member, behind, Distinct}

pub same_some : (y z : ℕ) → ◌≡◌ {A = Option ℕ} (Some y) (Some z) → y ≡ z
same_some y z e = cc

pub walk_same : (f g : ℕ → Option ℕ) (k : ℕ) (o : Option ℕ) → ((x : ℕ) → g x ≡ f x) → walk g k o ≡ walk f k o
walk_same f g zero o e = refl
walk_same f g (suc k) None e = refl
walk_same f g (suc k) (Some i) e =
    ap (λ (l : List ℕ). i ∷ l) (ap (walk g k) (e i) ∙ walk_same f g k (f i) e)

pub linked_walk : (f : ℕ → Option ℕ) (o : Option ℕ) (xs : List ℕ) → Linked f o xs → walk f (length xs) o ≡ xs
linked_walk f o [] h = refl
linked_walk f o (x ∷ xs) h = rw h.0 (ap (λ (l : List ℕ). x ∷ l) (linked_walk f (f x) xs h.1))

pub linked_same : (f g : ℕ → Option ℕ) (o : Option ℕ) (xs : List ℕ) → ((x : ℕ) → member xs x ≡ true → g x ≡ f x) → Linked f o xs → Linked g o xs
linked_same f g o [] same h = h
linked_same f g o (x ∷ xs) same h = (
  h.0,
  subst (λ (q : Option ℕ). Linked g q xs) (sym (same x (member_here x xs)))
      (linked_same f g (f x) xs (λ y m. same y (member_there x xs y m)) h.1),
)

pub backed_same : (p q : ℕ → Option ℕ) (o : Option ℕ) (xs : List ℕ) → ((x : ℕ) → member xs x ≡ true → q x ≡ p x) → Backed p o xs → Backed q o xs
backed_same p q o [] same h = tt
backed_same p q o (x ∷ xs) same h =
    (same x (member_here x xs) ∙ h.0, backed_same p q (Some x) xs (λ y m. same y (member_there x xs y m)) h.1)

pub above_same : (lab lab' : ℕ → ℕ) (lo : ℕ) (xs : List ℕ) → ((x : ℕ) → member xs x ≡ true → lab' x ≡ lab x) → Above lab lo xs → Above lab' lo xs
above_same lab lab' lo [] same h = h
above_same lab lab' lo (x ∷ xs) same h =
    let e = same x (member_here x xs) in (
      subst (λ (k : ℕ). lo ≤ k) (sym e) h.0,
      subst (λ (k : ℕ). Above lab' (suc k) xs) (sym e) (above_same lab lab' (suc (lab x)) xs (λ y m. same y (member_there x xs y m)) h.1),
    )

pub headed : (f : ℕ → Option ℕ) (o : Option ℕ) (xs : List ℕ) (b : ℕ) → Linked f o xs → o ≡ Some b → member xs b ≡ true
headed f o [] b h e = cc
headed f o (y ∷ ys) b h e = let d : y ≡ b = cc in simp (eq-eqb y b d)

-- where a link leads is a member
pub linked_next_member : (f : ℕ → Option ℕ) (o : Option ℕ) (xs : List ℕ) (a b : ℕ) → Linked f o xs → member xs a ≡ true → f a ≡ Some b → member xs b ≡ true
linked_next_member f o [] a b h m e = absurd (false≢true m)
linked_next_member f o (x ∷ xs) a b h m e =
    elim (member_cases x xs a m) [
      | inl d ↦ member_there x xs b (headed f (f x) xs b h.1 (ap f d ∙ e))
      | inr d ↦ member_there x xs b (linked_next_member f (f x) xs a b h.1 d.1 e)
    ]

-- where a link back leads is a member, or what stands before them all
pub backed_prev_member : (p : ℕ → Option ℕ) (o : Option ℕ) (xs : List ℕ) (x y : ℕ) → Backed p o xs → member xs x ≡ true → p x ≡ Some y → (o ≡ Some y) ⊎ (member xs y ≡ true)
backed_prev_member p o [] x y b m e = absurd (false≢true m)
backed_prev_member p o (z ∷ zs) x y b m e =
    elim (cases_eq z x) [
      | inl d ↦ inl (sym b.0 ∙ (ap p d ∙ e))
      | inr d ↦ elim (backed_prev_member p (Some z) zs x y b.1 (simp (ne_eqb z x d) at m) e)
          [ inl q ↦ inr (subst (λ (k : ℕ). member (z ∷ zs) k ≡ true) (same_some z y q) (member_here z zs)) | inr q ↦ inr (member_there z zs y q) ]
    ]

-- a new item does not stand twice
pub distinct_behind : (xs : List ℕ) (a n : ℕ) → (member xs n ≡ true → ⊥) → Distinct xs → Distinct (behind xs a n)
distinct_behind [] a n new d = tt
distinct_behind (x ∷ xs) a n new d =
    let xn : n ≡ x → ⊥ = λ e. new (simp (eq-eqb x n (sym e))) in
    let rest : member xs n ≡ true → ⊥ = λ m. new (elim (cases_eq x n) [ inl e ↦ simp (eq-eqb x n e) | inr k ↦ simp (ne_eqb x n k) m ]) in
    elim (cases_eq x a) [
      | inl e ↦ simp (eq-eqb x a e) ((simp (ne_eqb n x xn) d.0), (gone xs n rest, d.1))
      | inr k ↦ simp (ne_eqb x a k) (
        gone (behind xs a n) x (λ m. elim (member_behind_cases xs a n x m) [ inl e ↦ xn e | inr q ↦ both_ways (member xs x) d.0 q ]),
        distinct_behind xs a n rest d.1,
      )
    ]

-- where the label of the item behind stands, or the end
abbrev pub end_of : (ℕ → ℕ) → Option ℕ → ℕ
end_of lab None = 2 ^ 31
end_of lab (Some b) = lab b

pub above_end : (f : ℕ → Option ℕ) (lab : ℕ → ℕ) (o : Option ℕ) (lo l : ℕ) (xs : List ℕ) → Linked f o xs → l < end_of lab o → Above lab lo xs → Above lab (suc l) xs
above_end f lab o lo l [] h k ab = subst (λ (q : Option ℕ). l < end_of lab q) h k
above_end f lab o lo l (x ∷ xs) h k ab = (subst (λ (q : Option ℕ). l < end_of lab q) h.0 k, ab.1)

-- where none stands twice, the first is not among the rest
twice : (x : ℕ) (xs : List ℕ) (y : ℕ) → Distinct (x ∷ xs) → member xs y ≡ true → y ≡ x → ⊥
twice x xs y ds m e = both_ways (member xs x) ds.0 (subst (λ (k : ℕ). member xs k ≡ true) e m)

module _ (f g p q : ℕ → Option ℕ) (a n : ℕ)
    (gx : (x : ℕ) → (x ≡ n → ⊥) → (x ≡ a → ⊥) → g x ≡ f x) (ga : g a ≡ Some n) (gn : g n ≡ f a)
    (qx : (x : ℕ) → (x ≡ n → ⊥) → (f a ≡ Some x → ⊥) → q x ≡ p x) (qn : q n ≡ Some a) (qb : (b : ℕ) → f a ≡ Some b → q b ≡ Some n) where
  pub linked_behind : (o : Option ℕ) (xs : List ℕ) → (member xs n ≡ true → ⊥) → Distinct xs → Linked f o xs → Linked g o (behind xs a n)
  linked_behind o [] new ds h = h
  linked_behind o (x ∷ xs) new ds h =
      elim (cases_eq x a) [
        | inl e ↦
            let gx' : g x ≡ Some n = ap g e ∙ ga in
            let rest : Linked g (g n) xs =
            subst (λ (k : Option ℕ). Linked g k xs) (ap f e ∙ sym gn)
            (linked_same f g (f x) xs
            (λ y m. gx y (λ d. new (subst (λ (k : ℕ). member (x ∷ xs) k ≡ true) d (member_there x xs y m)))
            (λ d. twice x xs y ds m (d ∙ sym e)))
            h.1) in
            simp (eq-eqb x a e) (h.0, (gx', rest))
        | inr d ↦
            let same : g x ≡ f x = gx x (λ e. new (subst (λ (k : ℕ). member (x ∷ xs) k ≡ true) e (member_here x xs))) d in
            simp (ne_eqb x a d) (
              h.0,
              subst (λ (k : Option ℕ). Linked g k (behind xs a n)) (sym same)
                  (linked_behind (f x) xs (λ m. new (member_there x xs n m)) ds.1 h.1),
            )
      ]

  -- from n on, the back links are right where f a leads into xs
  backed_rest : (xs : List ℕ) (o : Option ℕ) → (member xs n ≡ true → ⊥) → Distinct xs → Linked f (f a) xs → Backed p o xs → Backed q (Some n) xs
  backed_rest [] o new ds h b = tt
  backed_rest (y ∷ ys) o new ds h b = (
    qb y h.0,
    backed_same p q (Some y) ys
        (λ z m. qx z (λ d. new (subst (λ (k : ℕ). member (y ∷ ys) k ≡ true) d (member_there y ys z m)))
        (λ e. twice y ys z ds m (sym (same_some y z (sym h.0 ∙ e)))))
        b.1,
  )

  pub backed_behind : (o r : Option ℕ) (xs : List ℕ) → (member xs n ≡ true → ⊥) → member xs a ≡ true → Distinct xs → Linked f o xs → Backed p r xs →
      Backed q r (behind xs a n)
  backed_behind o r [] new m ds h b = absurd (false≢true m)
  backed_behind o r (x ∷ xs) new m ds h b =
      let xn : x ≡ n → ⊥ = λ e. new (subst (λ (k : ℕ). member (x ∷ xs) k ≡ true) e (member_here x xs)) in
      elim (member_cases x xs a m) [
        | inl e ↦
            let back : f a ≡ Some x → ⊥ = λ s. twice x xs x ds (headed f (f x) xs x h.1 (ap f e ∙ s)) refl in
            simp (eq-eqb x a e) (
              qx x xn back ∙ b.0,
              (
                qn ∙ ap (λ (k : ℕ). Some k) (sym e),
                backed_rest xs (Some x) (λ k. new (member_there x xs n k)) ds.1 (subst (λ (k : ℕ). Linked f (f k) xs) e h.1) b.1,
              ),
            )
        | inr d ↦
            let back : f a ≡ Some x → ⊥ = λ s. twice x xs x ds (linked_next_member f (f x) xs a x h.1 d.1 s) refl in
            simp (ne_eqb x a d.0)
            (qx x xn back ∙ b.0, backed_behind (f x) (Some x) xs (λ k. new (member_there x xs n k)) d.1 ds.1 h.1 b.1)
      ]

module _ (f : ℕ → Option ℕ) (lab lab' : ℕ → ℕ) (a n l : ℕ) (lx : (x : ℕ) → (x ≡ n → ⊥) → lab' x ≡ lab x) (ln : lab' n ≡ l) where
  pub above_behind : (o : Option ℕ) (lo : ℕ) (xs : List ℕ) → (member xs n ≡ true → ⊥) → lab a < l → l < end_of lab (f a) → Linked f o xs → Above lab lo xs →
      Above lab' lo (behind xs a n)
  above_behind o lo [] new lower upper h ab = ab
  above_behind o lo (x ∷ xs) new lower upper h ab =
      let xn : x ≡ n → ⊥ = λ e. new (subst (λ (k : ℕ). member (x ∷ xs) k ≡ true) e (member_here x xs)) in
      let lxx : lab' x ≡ lab x = lx x xn in
      let front : lo ≤ lab' x = subst (λ (k : ℕ). lo ≤ k) (sym lxx) ab.0 in
      elim (cases_eq x a) [
        | inl e ↦
            let rest : Above lab' (suc l) xs =
            above_same lab lab' (suc l) xs
            (λ y m. lx y (λ d. new (subst (λ (k : ℕ). member (x ∷ xs) k ≡ true) d (member_there x xs y m))))
            (above_end f lab (f x) (suc (lab x)) l xs h.1 (subst (λ (k : ℕ). l < end_of lab (f k)) (sym e) upper) ab.1) in
            let mid : suc (lab' x) ≤ lab' n = let v = ap lab e in omega arith in
            simp (eq-eqb x a e) (front, (mid, subst (λ (k : ℕ). Above lab' (suc k) xs) (sym ln) rest))
        | inr d ↦
            simp (ne_eqb x a d) (
              front,
              subst (λ (k : ℕ). Above lab' (suc k) (behind xs a n)) (sym lxx)
                  (above_behind (f x) (suc (lab x)) xs (λ k. new (member_there x xs n k)) lower upper h.1 ab.1),
            )
      ]
