-- The list and the nodes of a tree without a key, and whether a key is there.
use Rattle.std.proofs.Common.{◌≡◌, ℕ, ◌+◌, Bool, true, false, cond, eqb, List, ◌∷◌, is_some, sym, refl, ap, arith}
use Rattle.trees.specs.Trees.{Entry, Tree, leaf, node, entries_onto, occurrences}
use Rattle.trees.specs.Lists.{KeyOrder, AllAfter, Sorted, list_drop, list_get}
use Rattle.trees.specs.RedBlack.{holds}
use Rattle.trees.specs.Removal.{removed, removed_serial}
use Rattle.trees.proofs.Sorting.{AllBefore, asymmetric, after_earlier, sorted_rest, before_later, before_not_earlier, before_next}
use Rattle.trees.proofs.ListLaws.{get_none}
use Rattle.trees.proofs.Removals.{step_list, root_list, step_occurrences, root_occurrences}

module _ {K : Type 0} {before : K → K → Bool} (o : KeyOrder before) (k : K) where
  -- what goes before k stays where it is, and is not asked
  pub drop_skips : (t : Tree Bool K) (xs : List (Entry K)) → AllBefore before k t → list_drop before k (entries_onto t xs) ≡ entries_onto t (list_drop before k xs)
  drop_skips leaf xs u = refl
  drop_skips (node m c f l r) xs u =
      let left = drop_skips l (f ∷ entries_onto r xs) u.0 in
      let right = drop_skips r xs u.2 in
      let x = asymmetric o f.key k u.1 in
      let y = u.1 in
      cc

  pub get_skips : (t : Tree Bool K) (xs : List (Entry K)) → AllBefore before k t → list_get before k (entries_onto t xs) ≡ list_get before k xs
  get_skips leaf xs u = refl
  get_skips (node m c f l r) xs u =
      let left = get_skips l (f ∷ entries_onto r xs) u.0 in
      let right = get_skips r xs u.2 in
      let x = asymmetric o f.key k u.1 in
      let y = u.1 in
      cc

  pub removed_list : (t : Tree Bool K) (xs : List (Entry K)) → Sorted before (entries_onto t xs) → holds before k t ≡ true → entries_onto (removed before k t).tree xs ≡ list_drop before k (entries_onto t xs)
  removed_list leaf xs s h = cc
  removed_list (node n c f l r) xs s h =
      at_node_lem (before k f.key) (before f.key k) refl refl (removed_list l (f ∷ entries_onto r xs) s) (removed_list r xs (sorted_rest o l (f ∷ entries_onto r xs) s).1)
    where
      at_node_lem : (b d : Bool) → before k f.key ≡ b → before f.key k ≡ d
          → (holds before k l ≡ true → entries_onto (removed before k l).tree (f ∷ entries_onto r xs) ≡ list_drop before k (entries_onto l (f ∷ entries_onto r xs)))
          → (holds before k r ≡ true → entries_onto (removed before k r).tree xs ≡ list_drop before k (entries_onto r xs))
          → entries_onto (removed before k (node n c f l r)).tree xs ≡ list_drop before k (entries_onto l (f ∷ entries_onto r xs))
      at_node_lem true d e g left right =
          let x = left (rw e at h) in
          let y = step_list false (node n c f l r) (removed before k l) xs in
          cc
      at_node_lem false true e g left right =
          let x = right (rw (e, g) at h) in
          let y = step_list true (node n c f l r) (removed before k r) xs in
          let z = drop_skips l (f ∷ entries_onto r xs) (before_later o f.key k l g (before_next o l f (entries_onto r xs) s)) in
          cc
      at_node_lem false false e g left right =
          let y = root_list n c f l r xs in
          let z = drop_skips l (f ∷ entries_onto r xs) (before_not_earlier o f.key k l e (before_next o l f (entries_onto r xs) s)) in
          cc

  pub removed_occurrences : (t : Tree Bool K) (i : ℕ) → holds before k t ≡ true → occurrences i (removed before k t).tree + cond (eqb i (removed_serial before k t)) 1 0 ≡ occurrences i t
  removed_occurrences leaf i h = grind arith
  removed_occurrences (node n c f l r) i h = at_node_lem (before k f.key) (before f.key k) refl refl (removed_occurrences l i) (removed_occurrences r i)
    where
      at_node_lem : (b d : Bool) → before k f.key ≡ b → before f.key k ≡ d
          → (holds before k l ≡ true → occurrences i (removed before k l).tree + cond (eqb i (removed_serial before k l)) 1 0 ≡ occurrences i l)
          → (holds before k r ≡ true → occurrences i (removed before k r).tree + cond (eqb i (removed_serial before k r)) 1 0 ≡ occurrences i r)
          → occurrences i (removed before k (node n c f l r)).tree + cond (eqb i (removed_serial before k (node n c f l r))) 1 0 ≡ occurrences i (node n c f l r)
      at_node_lem true d e g left right =
          let x = left (rw e at h) in
          let y = step_occurrences false (node n c f l r) (removed before k l) i in
          rw e (omega arith)
      at_node_lem false true e g left right =
          let x = right (rw (e, g) at h) in
          let y = step_occurrences true (node n c f l r) (removed before k r) i in
          rw (e, g) (omega arith)
      at_node_lem false false e g left right =
          let y = root_occurrences n c f l r i in
          rw (e, g) (omega arith)

  -- a key is in the tree exactly when the list has a value for it; k goes before all that stands behind the tree
  pub holds_get : (t : Tree Bool K) (xs : List (Entry K)) → Sorted before (entries_onto t xs) → AllAfter before k xs → holds before k t ≡ is_some (list_get before k (entries_onto t xs))
  holds_get leaf xs s a = sym (ap is_some (get_none o k xs a))
  holds_get (node n c f l r) xs s a =
      at_node_lem (before k f.key) (before f.key k) refl refl (holds_get l (f ∷ entries_onto r xs) s) (holds_get r xs (sorted_rest o l (f ∷ entries_onto r xs) s).1 a)
    where
      at_node_lem : (b d : Bool) → before k f.key ≡ b → before f.key k ≡ d
          → (AllAfter before k (f ∷ entries_onto r xs) → holds before k l ≡ is_some (list_get before k (entries_onto l (f ∷ entries_onto r xs))))
          → holds before k r ≡ is_some (list_get before k (entries_onto r xs))
          → holds before k (node n c f l r) ≡ is_some (list_get before k (entries_onto l (f ∷ entries_onto r xs)))
      at_node_lem true d e g left right =
          let x = left (e, after_earlier o k f.key (entries_onto r xs) e (sorted_rest o l (f ∷ entries_onto r xs) s).0) in
          cc
      at_node_lem false true e g left right =
          let z = get_skips l (f ∷ entries_onto r xs) (before_later o f.key k l g (before_next o l f (entries_onto r xs) s)) in
          cc
      at_node_lem false false e g left right =
          let z = get_skips l (f ∷ entries_onto r xs) (before_not_earlier o f.key k l e (before_next o l f (entries_onto r xs) s)) in
          cc
