-- Positions in the list of an order, and what a new item does to them.
use Rattle.std.proofs.Common.{◌≡◌, ℕ, suc, ◌<◌, ◌≤◌, true, false, List, [], ◌∷◌, length, Some, None, sym, refl, ap, ◌∙◌, subst, inl, inr, le_refl, not-suc-le-zero, arith}
use Rattle.std.proofs.lemmas.Bool.{cases_eq, eq-eqb, ne_eqb}
use Rattle.order.specs.Items.{member, Distinct, position, following, behind}
use Rattle.slices.specs.Openings.{up}
use Rattle.states.specs.Listed.{PositionsStand}

position_here : (x v : ℕ) (xs : List ℕ) → x ≡ v → position (x ∷ xs) v ≡ 0
position_here x v xs e = rw (eq-eqb x v e) refl

position_there : (x v : ℕ) (xs : List ℕ) → (x ≡ v → ⊥) → position (x ∷ xs) v ≡ suc (position xs v)
position_there x v xs n = rw (ne_eqb x v n) refl

position_same : (L : List ℕ) (v w : ℕ) → position L v < length L → position L v ≡ position L w → v ≡ w
position_same [] v w h e = absurd (not-suc-le-zero h)
position_same (x ∷ xs) v w h e =
    elim (cases_eq x v) [
      | inl p ↦
          elim (cases_eq x w) [
            | inl q ↦ sym p ∙ q
            | inr q ↦ absurd (let a = position_here x v xs p in let b = position_there x w xs q in omega (arith, a, b, e))
          ]
      | inr p ↦
          let a = position_there x v xs p in
          elim (cases_eq x w) [
            | inl q ↦ absurd (let b = position_here x w xs q in omega (arith, a, b, e))
            | inr q ↦ let b = position_there x w xs q in position_same xs v w (omega (arith, a, h)) (omega (arith, a, b, e))
          ]
    ]

position_le : (L : List ℕ) (v : ℕ) → position L v ≤ length L
position_le [] v = le_refl 0
position_le (x ∷ xs) v =
    let i = position_le xs v in
    elim (cases_eq x v) [
      | inl p ↦ let a = position_here x v xs p in omega (arith, a)
      | inr p ↦ let a = position_there x v xs p in omega (arith, a, i)
    ]

some_same : (a b : ℕ) → Some a ≡ Some b → a ≡ b
some_same a b e = cc

some_none : (P : Type 0) (a : ℕ) → Some a ≡ None → P
some_none P a e = absurd (let z : ◌≡◌ {A = ℕ} 0 1 = cc in omega arith)

-- the following is an item
position_last : (L : List ℕ) (u s : ℕ) → following L u ≡ Some s → position L s < length L
position_last [] u s e = some_none _ s (sym e)
position_last (x ∷ []) u s e =
    elim (cases_eq x u) [
      | inl p ↦ some_none _ s (sym (let z : None ≡ Some s = rw (eq-eqb x u p) at e in z))
      | inr p ↦ some_none _ s (sym (let z : None ≡ Some s = rw (ne_eqb x u p) at e in z))
    ]
position_last (x ∷ y ∷ xs) u s e =
    elim (cases_eq x s) [
      | inl z ↦ let a = position_here x s (y ∷ xs) z in omega (arith, a)
      | inr n ↦
          let a = position_there x s (y ∷ xs) n in
          elim (cases_eq x u) [
            | inl p ↦
                let q : y ≡ s = some_same y s (let z : Some y ≡ Some s = rw (eq-eqb x u p) at e in z) in
                let b = position_here y s xs q in
                omega (arith, a, b)
            | inr p ↦
                let e' : following (y ∷ xs) u ≡ Some s = rw (ne_eqb x u p) at e in
                let i = position_last (y ∷ xs) u s e' in
                omega (arith, a, i)
          ]
    ]

-- what is not in the list stands at its end
pub member_far : (xs : List ℕ) (v : ℕ) → member xs v ≡ false → length xs ≤ position xs v
member_far [] v h = le_refl 0
member_far (x ∷ xs) v h =
    elim (cases_eq x v) [
      | inl e ↦ absurd (let m : member (x ∷ xs) v ≡ true = rw (eq-eqb x v e) refl in let z : ◌≡◌ {A = ℕ} 0 1 = cc in omega arith)
      | inr n ↦ let a = position_there x v xs n in let m : member xs v ≡ false = rw (ne_eqb x v n) at h in let i = member_far xs v m in omega (arith, a, i)
    ]

position_next : (L : List ℕ) → Distinct L → (u s : ℕ) → position L u < length L → following L u ≡ Some s → position L s ≡ suc (position L u)
position_next [] d u s h e = absurd (not-suc-le-zero h)
position_next (x ∷ []) d u s h e =
    elim (cases_eq x u) [
      | inl p ↦ some_none _ s (sym (let z : None ≡ Some s = rw (eq-eqb x u p) at e in z))
      | inr p ↦ some_none _ s (sym (let z : None ≡ Some s = rw (ne_eqb x u p) at e in z))
    ]
position_next (x ∷ y ∷ xs) d u s h e =
    elim (cases_eq x u) [
      | inl p ↦
          let q : y ≡ s = some_same y s (let z : Some y ≡ Some s = rw (eq-eqb x u p) at e in z) in
          let far = member_far (y ∷ xs) x d.0 in
          let n : x ≡ s → ⊥ = λ z. let b = position_here y x xs (q ∙ sym z) in omega (arith, far, b) in
          let a = position_here x u (y ∷ xs) p in
          let b = position_there x s (y ∷ xs) n in
          let c = position_here y s xs q in
          omega (arith, a, b, c)
      | inr p ↦
          let e' : following (y ∷ xs) u ≡ Some s = rw (ne_eqb x u p) at e in
          let a = position_there x u (y ∷ xs) p in
          let i = position_next (y ∷ xs) d.1 u s (omega (arith, a, h)) e' in
          let far = member_far (y ∷ xs) x d.0 in
          let n : x ≡ s → ⊥ = λ z.
          let b = ap (position (y ∷ xs)) z in
          let top = position_le (y ∷ xs) s in
          let last : length (y ∷ xs) ≤ suc (position (y ∷ xs) u) = omega (arith, far, b, i) in
          let r = position_last (y ∷ xs) u s e' in
          omega (arith, last, far, b, r) in
          let b = position_there x s (y ∷ xs) n in
          omega (arith, a, b, i)
    ]

position_end : (L : List ℕ) (u : ℕ) → position L u < length L → following L u ≡ None → suc (position L u) ≡ length L
position_end [] u h e = absurd (not-suc-le-zero h)
position_end (x ∷ []) u h e =
    elim (cases_eq x u) [
      | inl p ↦ let a = position_here x u [] p in omega (arith, a)
      | inr p ↦ absurd (let a = position_there x u [] p in omega (arith, a, h))
    ]
position_end (x ∷ y ∷ xs) u h e =
    elim (cases_eq x u) [
      | inl p ↦ some_none _ y (let z : Some y ≡ None = rw (eq-eqb x u p) at e in z)
      | inr p ↦
          let e' : following (y ∷ xs) u ≡ None = rw (ne_eqb x u p) at e in
          let a = position_there x u (y ∷ xs) p in
          let i = position_end (y ∷ xs) u (omega (arith, a, h)) e' in
          omega (arith, a, i)
    ]

up_suc : (q p : ℕ) → suc (up q p) ≡ up (suc q) (suc p)
up_suc q p = grind arith

up_zero : (q : ℕ) → up (suc q) 0 ≡ 0
up_zero q = grind arith

up_one : (p : ℕ) → up 1 (suc p) ≡ suc (suc p)
up_one p = grind arith

put_length : (L : List ℕ) (a b : ℕ) → position L a < length L → length (behind L a b) ≡ suc (length L)
put_length [] a b h = absurd (not-suc-le-zero h)
put_length (x ∷ xs) a b h =
    elim (cases_eq x a) [
      | inl p ↦ rw (eq-eqb x a p) refl
      | inr p ↦ let e = position_there x a xs p in let i = put_length xs a b (omega (arith, e, h)) in rw (ne_eqb x a p) (ap suc i)
    ]

put_new : (L : List ℕ) (a b : ℕ) → position L a < length L → length L ≤ position L b → position (behind L a b) b ≡ suc (position L a)
put_new [] a b h f = absurd (not-suc-le-zero h)
put_new (x ∷ xs) a b h f =
    let n : x ≡ b → ⊥ = λ e. let z = position_here x b xs e in omega (arith, z, f) in
    let fb = position_there x b xs n in
    elim (cases_eq x a) [
      | inl p ↦ rw (eq-eqb x a p) (position_there x b (b ∷ xs) n ∙ ap suc (position_here b b xs refl))
      | inr p ↦
          let e = position_there x a xs p in
          let i = put_new xs a b (omega (arith, e, h)) (omega (arith, fb, f)) in
          rw (ne_eqb x a p) (position_there x b (behind xs a b) n ∙ ap suc i)
    ]

put_old : (L : List ℕ) (a b v : ℕ) → position L a < length L → (b ≡ v → ⊥) → position (behind L a b) v ≡ up (suc (position L a)) (position L v)
put_old [] a b v h n = absurd (not-suc-le-zero h)
put_old (x ∷ xs) a b v h n =
    elim (cases_eq x a) [
      | inl p ↦
          let ea = position_here x a xs p in
          elim (cases_eq x v) [
            | inl q ↦ subst (λ (z : List ℕ). position z v ≡ up (suc (position (x ∷ xs) a)) (position (x ∷ xs) v)) (sym (let z : behind (x ∷ xs) a b ≡ x ∷ b ∷ xs = rw (eq-eqb x a p) refl in z))
                (position_here x v (b ∷ xs) q ∙ sym (ap (up (suc (position (x ∷ xs) a))) (position_here x v xs q) ∙ up_zero (position (x ∷ xs) a)))
            | inr q ↦ subst (λ (z : List ℕ). position z v ≡ up (suc (position (x ∷ xs) a)) (position (x ∷ xs) v)) (sym (let z : behind (x ∷ xs) a b ≡ x ∷ b ∷ xs = rw (eq-eqb x a p) refl in z))
                ((position_there x v (b ∷ xs) q ∙ ap suc (position_there b v xs n))
                ∙ sym (ap (λ (z : ℕ). up (suc z) (position (x ∷ xs) v)) ea ∙ (ap (up 1) (position_there x v xs q) ∙ up_one (position xs v))))
          ]
      | inr p ↦
          let ea = position_there x a xs p in
          let i = put_old xs a b v (omega (arith, ea, h)) n in
          let pb : behind (x ∷ xs) a b ≡ x ∷ behind xs a b = rw (ne_eqb x a p) refl in
          elim (cases_eq x v) [
            | inl q ↦ subst (λ (z : List ℕ). position z v ≡ up (suc (position (x ∷ xs) a)) (position (x ∷ xs) v)) (sym pb)
                (position_here x v (behind xs a b) q ∙ sym (ap (up (suc (position (x ∷ xs) a))) (position_here x v xs q) ∙ up_zero (position (x ∷ xs) a)))
            | inr q ↦ subst (λ (z : List ℕ). position z v ≡ up (suc (position (x ∷ xs) a)) (position (x ∷ xs) v)) (sym pb)
                (position_there x v (behind xs a b) q
                ∙ (ap suc i ∙ (up_suc (suc (position xs a)) (position xs v)
                ∙ sym (ap (λ (z : ℕ). up (suc z) (position (x ∷ xs) v)) ea ∙ ap (up (suc (suc (position xs a)))) (position_there x v xs q)))))
          ]
    ]

up_lt_back : (q p n : ℕ) → q ≤ n → up q p < suc n → p < n
up_lt_back q p n k h = grind arith

member_near : (xs : List ℕ) (v : ℕ) → member xs v ≡ true → position xs v < length xs
member_near [] v h = absurd (let z : ◌≡◌ {A = ℕ} 0 1 = cc in omega arith)
member_near (x ∷ xs) v h =
    elim (cases_eq x v) [
      | inl e ↦ let a = position_here x v xs e in omega (arith, a)
      | inr n ↦ let a = position_there x v xs n in let m : member xs v ≡ true = rw (ne_eqb x v n) at h in let i = member_near xs v m in omega (arith, a, i)
    ]

pub positions_stand : PositionsStand
positions_stand xs = (
  member_near xs,
  position_same xs,
  position_next xs,
  (λ _. position_end xs),
  (λ a b h f. (
    put_length xs a b h,
    put_new xs a b h f,
    (λ v k. put_old xs a b v h (λ e. let z = ap (position xs) e in omega (arith, z, f, k))),
    (λ v k.
        elim (cases_eq b v) [
          | inl e ↦ inl (sym e)
          | inr n ↦ let z = put_old xs a b v h n in inr (up_lt_back (suc (position xs a)) (position xs v) (length xs) h (subst (λ (y : ℕ). y < suc (length xs)) z k))
        ]),
  )),
)
