-- What grouped items say: they stand group by group, and their keys rise.
use Rattle.std.proofs.Common.{◌≡◌, ℕ, suc, ◌+◌, ◌*◌, ◌<◌, ◌≤◌, true, ◌⊎◌, List, [], ◌∷◌, ◌++◌, length, sym, refl, ap, ◌∙◌, subst, inl, inr, arith}
use Rattle.std.proofs.lemmas.Bool.{eq-eqb, ne_eqb, false≢true, both_ways}
use Rattle.std.proofs.lemmas.List.{append-nil, length-append}
use Rattle.grouping.specs.Blocks.{flat, in_group, blocks_of, Inside, Ranks, Grouped}
use Rattle.linked_lists.proofs.Insert.{above_same}
use Rattle.linked_lists.specs.Chain.{Above}
use Rattle.order.proofs.Members.{member_cases, member_here, member_there}
use Rattle.order.specs.Items.{member, Distinct, position}

-- members of two lists on end
pub member_append : (xs ys : List ℕ) (a : ℕ) → member (xs ++ ys) a ≡ true → (member xs a ≡ true) ⊎ (member ys a ≡ true)
member_append [] ys a m = inr m
member_append (x ∷ xs) ys a m =
    elim (member_cases x (xs ++ ys) a m) [
      | inl e ↦ inl (simp (eq-eqb x a e))
      | inr d ↦ elim (member_append xs ys a d.1) [ inl k ↦ inl (member_there x xs a k) | inr k ↦ inr k ]
    ]

pub member_left : (xs ys : List ℕ) (a : ℕ) → member xs a ≡ true → member (xs ++ ys) a ≡ true
member_left [] ys a m = absurd (false≢true m)
member_left (x ∷ xs) ys a m =
    elim (member_cases x xs a m) [ inl e ↦ simp (eq-eqb x a e) | inr d ↦ member_there x (xs ++ ys) a (member_left xs ys a d.1) ]

pub member_right : (xs ys : List ℕ) (a : ℕ) → member ys a ≡ true → member (xs ++ ys) a ≡ true
member_right [] ys a m = m
member_right (x ∷ xs) ys a m = member_there x (xs ++ ys) a (member_right xs ys a m)

pub inside_at : (grp : ℕ → ℕ) (g : ℕ) (b : List ℕ) (x : ℕ) → Inside grp g b → member b x ≡ true → grp x ≡ g
inside_at grp g [] x h m = absurd (false≢true m)
inside_at grp g (y ∷ ys) x h m =
    elim (member_cases y ys x m) [ inl e ↦ ap grp (sym e) ∙ h.0 | inr d ↦ inside_at grp g ys x h.1 d.1 ]

pub ranks_at : (rank : ℕ → ℕ) (lo : ℕ) (b : List ℕ) (x : ℕ) → Ranks rank lo b → member b x ≡ true → rank x < 64
ranks_at rank lo [] x h m = absurd (false≢true m)
ranks_at rank lo (y ∷ ys) x h m =
    elim (member_cases y ys x m)
    [ inl e ↦ subst (λ (k : ℕ). rank k < 64) e (top (suc (rank y)) ys h.1) | inr d ↦ ranks_at rank (suc (rank y)) ys x h.1 d.1 ]
  where
    top : (l : ℕ) (zs : List ℕ) → Ranks rank l zs → l ≤ 64
    top l [] r = r
    top l (z ∷ zs) r = let t = top (suc (rank z)) zs r.1 in let u = r.0 in omega arith

module _ (grp rank : ℕ → ℕ) where
  -- an item's group is one of the groups
  pub group_in : (gs : List ℕ) (bs : List (List ℕ)) (x : ℕ) → Grouped grp rank gs bs → member (flat bs) x ≡ true → member gs (grp x) ≡ true
  group_in [] [] x h m = absurd (false≢true m)
  group_in [] (b ∷ bs) x h m = absurd h
  group_in (g ∷ gs) [] x h m = absurd h
  group_in (g ∷ gs) (b ∷ bs) x h m =
      elim (member_append b (flat bs) x m) [
        | inl k ↦ subst (λ (q : ℕ). member (g ∷ gs) q ≡ true) (sym (inside_at grp g b x h.0.all k)) (member_here g gs)
        | inr k ↦ member_there g gs (grp x) (group_in gs bs x h.1 k)
      ]

  pub rank_in : (gs : List ℕ) (bs : List (List ℕ)) (x : ℕ) → Grouped grp rank gs bs → member (flat bs) x ≡ true → rank x < 64
  rank_in [] [] x h m = absurd (false≢true m)
  rank_in [] (b ∷ bs) x h m = absurd h
  rank_in (g ∷ gs) [] x h m = absurd h
  rank_in (g ∷ gs) (b ∷ bs) x h m =
      elim (member_append b (flat bs) x m) [ inl k ↦ ranks_at rank 0 b x h.0.ranks k | inr k ↦ rank_in gs bs x h.1 k ]

  -- no more groups than items
  pub groups_few : (gs : List ℕ) (bs : List (List ℕ)) → Grouped grp rank gs bs → length gs ≤ length (flat bs)
  groups_few [] [] h = omega arith
  groups_few [] (b ∷ bs) h = absurd h
  groups_few (g ∷ gs) [] h = absurd h
  groups_few (g ∷ gs) (b ∷ bs) h =
      let r = groups_few gs bs h.1 in let s = h.0.some in let l = length-append b (flat bs) in omega arith

  above_weaker : (lab : ℕ → ℕ) (lo hi : ℕ) (xs : List ℕ) → lo ≤ hi → Above lab hi xs → Above lab lo xs
  above_weaker lab lo hi [] l h = omega arith
  above_weaker lab lo hi (x ∷ xs) l h = let u = h.0 in (omega arith, h.1)

  above_block : (lab : ℕ → ℕ) (k lo : ℕ) (b xs : List ℕ) → ((x : ℕ) → member b x ≡ true → lab x ≡ k * 64 + rank x) → Ranks rank lo b → Above lab (suc k * 64) xs →
      Above lab (k * 64 + lo) (b ++ xs)
  above_block lab k lo [] xs e r h = above_weaker lab (k * 64 + lo) (suc k * 64) xs (omega arith) h
  above_block lab k lo (y ∷ ys) xs e r h =
      let q = e y (member_here y ys) in
      let u = r.0 in (
        omega arith,
        above_weaker lab (suc (lab y)) (k * 64 + suc (rank y)) (ys ++ xs) (omega arith)
            (above_block lab k (suc (rank y)) ys xs (λ x m. e x (member_there y ys x m)) r.1 h),
      )

  pub grouped_above : (k : ℕ) (gs : List ℕ) (bs : List (List ℕ)) → Distinct gs → Grouped grp rank gs bs → k + length gs ≤ 4097 →
      Above (λ x. (k + position gs (grp x)) * 64 + rank x) (k * 64) (flat bs)
  grouped_above k [] [] d h l = omega arith
  grouped_above k [] (b ∷ bs) d h l = absurd h
  grouped_above k (g ∷ gs) [] d h l = absurd h
  grouped_above k (g ∷ gs) (b ∷ bs) d h l =
      let here : (x : ℕ) → member b x ≡ true → (k + position (g ∷ gs) (grp x)) * 64 + rank x ≡ k * 64 + rank x =
      λ x m. simp (eq-eqb g (grp x) (sym (inside_at grp g b x h.0.all m))) (omega arith) in
      let apart : (x : ℕ) → member (flat bs) x ≡ true → g ≡ grp x → ⊥ =
      λ x m e. both_ways (member gs g) d.0 (subst (λ (q : ℕ). member gs q ≡ true) (sym e) (group_in gs bs x h.1 m)) in
      let there : (x : ℕ) → member (flat bs) x ≡ true → (k + position (g ∷ gs) (grp x)) * 64 + rank x ≡ (suc k + position gs (grp x)) * 64 + rank x =
      λ x m. simp (ne_eqb g (grp x) (apart x m)) (omega arith) in
      let start : k * 64 + 0 ≡ k * 64 = omega arith in
      subst (λ (q : ℕ). Above (λ x. (k + position (g ∷ gs) (grp x)) * 64 + rank x) q (b ++ flat bs)) start
      (above_block (λ x. (k + position (g ∷ gs) (grp x)) * 64 + rank x) k 0 b (flat bs) here h.0.ranks
      (above_same (λ x. (suc k + position gs (grp x)) * 64 + rank x) (λ x. (k + position (g ∷ gs) (grp x)) * 64 + rank x) (suc k * 64) (flat bs) there
      (grouped_above (suc k) gs bs d.1 h.1 (omega arith))))

-- the blocks are those of the list
module _ (grp : ℕ → ℕ) where
  all_in : (g : ℕ) (b xs : List ℕ) → Inside grp g b → in_group grp g (b ++ xs) ≡ b ++ in_group grp g xs
  all_in g [] xs h = refl
  all_in g (y ∷ ys) xs h = simp (eq-eqb (grp y) g h.0) (ap (λ (l : List ℕ). y ∷ l) (all_in g ys xs h.1))

  none_in : (g : ℕ) (b xs : List ℕ) → ((x : ℕ) → member b x ≡ true → grp x ≡ g → ⊥) → in_group grp g (b ++ xs) ≡ in_group grp g xs
  none_in g [] xs h = refl
  none_in g (y ∷ ys) xs h = simp (ne_eqb (grp y) g (h y (member_here y ys))) (none_in g ys xs (λ x m. h x (member_there y ys x m)))

  none_of : (g : ℕ) (xs : List ℕ) → ((x : ℕ) → member xs x ≡ true → grp x ≡ g → ⊥) → in_group grp g xs ≡ []
  none_of g [] h = refl
  none_of g (y ∷ ys) h = simp (ne_eqb (grp y) g (h y (member_here y ys))) (none_of g ys (λ x m. h x (member_there y ys x m)))

  rest_same : (gs b xs : List ℕ) → ((x : ℕ) → member b x ≡ true → member gs (grp x) ≡ true → ⊥) → blocks_of grp gs (b ++ xs) ≡ blocks_of grp gs xs
  rest_same [] b xs h = refl
  rest_same (g ∷ gs) b xs h =
      let one : in_group grp g (b ++ xs) ≡ in_group grp g xs = none_in g b xs (λ x m e. h x m (subst (λ (q : ℕ). member (g ∷ gs) q ≡ true) (sym e) (member_here g gs))) in
      let more : blocks_of grp gs (b ++ xs) ≡ blocks_of grp gs xs = rest_same gs b xs (λ x m k. h x m (member_there g gs (grp x) k)) in
      cc

  pub blocks_are : (rank : ℕ → ℕ) (gs : List ℕ) (bs : List (List ℕ)) → Distinct gs → Grouped grp rank gs bs → blocks_of grp gs (flat bs) ≡ bs
  blocks_are rank [] [] d h = refl
  blocks_are rank [] (b ∷ bs) d h = absurd h
  blocks_are rank (g ∷ gs) [] d h = absurd h
  blocks_are rank (g ∷ gs) (b ∷ bs) d h =
      let apart : (x : ℕ) → member (flat bs) x ≡ true → grp x ≡ g → ⊥ =
      λ x m e. both_ways (member gs g) d.0 (subst (λ (q : ℕ). member gs q ≡ true) e (group_in grp rank gs bs x h.1 m)) in
      let one : in_group grp g (b ++ flat bs) ≡ b =
      all_in g b (flat bs) h.0.all ∙ (ap (λ (l : List ℕ). b ++ l) (none_of g (flat bs) apart) ∙ append-nil b) in
      let more : blocks_of grp gs (b ++ flat bs) ≡ bs =
      rest_same gs b (flat bs)
      (λ x m k. both_ways (member gs g) d.0 (subst (λ (q : ℕ). member gs q ≡ true) (inside_at grp g b x h.0.all m) k))
      ∙ blocks_are rank gs bs d.1 h.1 in
      cc
