-- Put and drop on a map's tree.
use Rattle.std.proofs.Common.{◌≡◌, ℕ, Bool, true, false, cond, eqb, List, [], is_some, Some, None, Option, sym, refl, ◌∙◌, subst, arith}
use Rattle.trees.specs.Trees.{Entry, Tree, leaf, node, with_mark, entries, entries_onto, occurrences}
use Rattle.trees.specs.Lists.{Sorted, list_put, list_drop, list_get}
use Rattle.trees.specs.RedBlack.{red, Balanced, holds, replaced, inserted}
use Rattle.trees.specs.Removal.{removed}
use Rattle.trees.specs.Theorems.{put_tree, drop_tree, PutInto, DroppedFrom, PutSets, DropRemoves, TreeAnswers}
use Rattle.trees.proofs.ListLaws.{put_sorted_lem, drop_sorted_lem, drop_absent}
use Rattle.trees.proofs.Insertion.{grows, black_balanced, replaced_balanced, inserted_sum, replaced_occurrences, inserted_list, replaced_list}
use Rattle.trees.proofs.Removals.{removed_shrinks}
use Rattle.trees.proofs.RemovedLists.{removed_list, removed_occurrences, holds_get}
use Rattle.trees.proofs.Rules.{to_balanced, to_rules}

module _ {K : Type 0} where
  pub marked_list : (c : Bool) (t : Tree Bool K) (xs : List (Entry K)) → entries_onto (with_mark c t) xs ≡ entries_onto t xs
  marked_list c leaf xs = refl
  marked_list c (node n d e l r) xs = refl

  pub marked_occurrences : (c : Bool) (t : Tree Bool K) (i : ℕ) → occurrences i (with_mark c t) ≡ occurrences i t
  marked_occurrences c leaf i = refl
  marked_occurrences c (node n d e l r) i = refl

  pub marked_red : (t : Tree Bool K) → red (with_mark false t) ≡ false
  marked_red leaf = refl
  marked_red (node n d e l r) = refl

pub none_is : {A : Type 0} (x : Option A) → is_some x ≡ false → x ≡ None
none_is None h = refl
none_is (Some a) h = cc

pub put_sets : (K : Type 0) → PutSets K
put_sets K before o k v n t h = go (holds before k t) refl
  where
    b : Balanced t
    b = to_balanced t h.red_black

    go : (x : Bool) → holds before k t ≡ x → PutInto before k v n t (put_tree before k v n t)
    go true e =
        let u = replaced before k v t in
        let list : entries u ≡ list_put before k v (entries t) = replaced_list o k v t [] h.sorted e in
        let z = replaced_balanced before k v t b in
        rw e (record {
          map = record { red_black = to_rules u z.0 (z.1 ∙ h.red_black.black_root); sorted = subst (Sorted before) (sym list) (put_sorted_lem o k v (entries t) h.sorted) };
          list = list;
          nodes = λ i. rw e (omega (arith, replaced_occurrences before k v i t));
        })
    go false e =
        let w = inserted before k v n t in
        let u = with_mark false w in
        let list : entries u ≡ list_put before k v (entries t) = marked_list false w [] ∙ inserted_list o k v n t [] h.sorted tt e in
        rw e (record {
          map = record { red_black = to_rules u (black_balanced w (grows before k v n t b).almost) (marked_red w); sorted = subst (Sorted before) (sym list) (put_sorted_lem o k v (entries t) h.sorted) };
          list = list;
          nodes = λ i. rw e (omega (arith, marked_occurrences false w i, inserted_sum before k v (λ m e. cond (eqb i m) 1 0) n t));
        })

pub tree_answers : (K : Type 0) → TreeAnswers K
tree_answers K before o k t s = holds_get o k t [] s tt

pub drop_removes : (K : Type 0) → DropRemoves K
drop_removes K before o k t h = go (holds before k t) refl
  where
    go : (x : Bool) → holds before k t ≡ x → DroppedFrom before k t (drop_tree before k t)
    go true e =
        let u = (removed before k t).tree in
        let list : entries u ≡ list_drop before k (entries t) = removed_list o k t [] h.sorted e in
        let z = removed_shrinks before k t (to_balanced t h.red_black) in
        rw e (record {
          map = record { red_black = to_rules u z.balanced (z.black_stays h.red_black.black_root); sorted = subst (Sorted before) (sym list) (drop_sorted_lem o k (entries t) h.sorted) };
          list = list;
          nodes = λ i. rw e (removed_occurrences o k t i e);
        })
    go false e =
        let none : list_get before k (entries t) ≡ None = none_is (list_get before k (entries t)) (sym (tree_answers K before o k t h.sorted) ∙ e) in
        rw e (record { map = h; list = sym (drop_absent o k (entries t) none); nodes = λ i. rw e (omega arith) })
