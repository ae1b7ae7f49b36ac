-- The laws of groups.
use Rattle.std.proofs.Common.{◌≡◌, ℕ, ◌<◌, ◌≤◌, Bool, true, false, cond, ltb, List, [], ◌∷◌, ◌++◌, length, take, drop, sym, refl, ap, ◌∙◌, subst, inl, inr, append_assoc, arith}
use Rattle.std.proofs.lemmas.List.{take-append-drop, length-take-le, length-drop}
use Rattle.std.proofs.lemmas.Bool.{cases_lt, cases_Bool, lt-ltb, le-ltb, cond-true, cond-false}
use Rattle.order.specs.Items.{member, behind}
use Rattle.order.proofs.Members.{behind_left, behind_right, tail_distinct, long_behind}
use Rattle.grouping.specs.Blocks.{flat, divided}
use Rattle.grouping.specs.Laws.{GroupsHoldTheList, Small, GroupsStaySmall}

divided_flat : (b : List ℕ) (bs : List (List ℕ)) → flat (divided b bs) ≡ b ++ flat bs
divided_flat b bs = pick (ltb 32 (length b))
  where
    pick : (t : Bool) → flat (cond t (take 16 b ∷ (drop 16 b ∷ bs)) (b ∷ bs)) ≡ b ++ flat bs
    pick true = sym (append_assoc (take 16 b) (drop 16 b) (flat bs)) ∙ ap (λ (l : List ℕ). l ++ flat bs) (take-append-drop 16 b)
    pick false = refl

pub groups_flat : GroupsHoldTheList
groups_flat [] a n d = refl
groups_flat (b ∷ bs) a n d =
    elim (cases_Bool (member b a)) [
      | inl t ↦ simp t (divided_flat (behind b a n) bs ∙ sym (behind_left b (flat bs) a n t))
      | inr f ↦ simp f (ap (λ (l : List ℕ). b ++ l) (groups_flat bs a n (tail_distinct b (flat bs) d)) ∙ sym (behind_right b (flat bs) a n f))
    ]

-- a group of 1 to 33 items, divided where it has 33
divided_small : (b : List ℕ) (bs : List (List ℕ)) → 0 < length b → length b ≤ 33 → Small bs → Small (divided b bs)
divided_small b bs some few h =
    elim (cases_lt 32 (length b)) [
      | inl t ↦
          let p : length (take 16 b) ≡ 16 = length-take-le 16 b (omega arith) in
          let q = length-drop 16 b in
          subst Small (sym (cond-true _ _ _ (lt-ltb 32 (length b) t))) (omega arith, omega arith, (omega arith, omega arith, h))
      | inr t ↦ subst Small (sym (cond-false _ _ _ (le-ltb 32 (length b) t))) (some, t, h)
    ]

pub groups_small : GroupsStaySmall
groups_small [] a n h = tt
groups_small (b ∷ bs) a n h =
    let s = h.0 in
    let f = h.1 in
    elim (cases_Bool (member b a)) [
      | inl t ↦ let l = long_behind b a n t in simp t (divided_small (behind b a n) bs (omega arith) (omega arith) h.2)
      | inr d ↦ simp d (s, f, groups_small bs a n h.2)
    ]
