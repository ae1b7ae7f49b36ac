-- What holds of the trees of a map and of the heaps of a queue, for every key type and every order of its keys.
--
--   MapTree, Heap            the invariants of a map's tree and of a queue's heap
--   put_tree, drop_tree      the tree after put and after drop
--   single, pushed, popped   a heap of one job; the heap after push and after pop
--   PutSets                  put sets a key's value and keeps the invariant
--   DropRemoves              drop removes a key and keeps the invariant
--   TreeAnswers              a key is in the tree exactly when the list answers its value
--   ListLawsHold             put, drop and get on sorted lists
--   RulesAreBalanced         the rules of red-black trees, and the form in which proofs carry them
--   MergeJoins               merge keeps both heaps' jobs, each as often as it waits there
--   PushAdds, PopTakes       push adds its job; pop takes a first one
--   MapIsLow, HeapIsLow      a map of at most 4,096 nodes is at most 24 high; such a heap's rank is at most 12
use Rattle.std.specs.Prelude.{◌≡◌, ℕ, ◌+◌, ◌≤◌, Bool, false, cond, List, is_some, Some, None, ◌==◌}
use Rattle.trees.specs.Trees.{Entry, entry, Tree, leaf, node, with_mark, entries, height, sum_over, size, occurrences}
use Rattle.trees.specs.Lists.{KeyOrder, Sorted, list_put, list_drop, list_get}
use Rattle.trees.specs.RedBlack.{red, RedBlack, Balanced, holds, replaced, inserted}
use Rattle.trees.specs.Removal.{removed, removed_serial}
use Rattle.trees.specs.Leftist.{rank, Leftist, HeapOrdered, merged, same_key, waiting, NoneBefore}

-- the keys rise from left to right in a red-black tree
pub record MapTree {K : Type 0} (before : K → K → Bool) (t : Tree Bool K) : Type 0 where
  pub red_black : RedBlack t
  pub sorted : Sorted before (entries t)

pub record Heap {K : Type 0} (before : K → K → Bool) (t : Tree ℕ K) : Type 0 where
  pub leftist : Leftist t
  pub ordered : HeapOrdered before t

module _ {K : Type 0} (before : K → K → Bool) (k : K) where
  -- n is the serial number of the node that a new key gets
  abbrev pub put_tree : ℕ → ℕ → Tree Bool K → Tree Bool K
  put_tree v n t = cond (holds before k t) (replaced before k v t) (with_mark false (inserted before k v n t))

  abbrev pub drop_tree : Tree Bool K → Tree Bool K
  drop_tree t = cond (holds before k t) (removed before k t).tree t

  -- the tree u is t after a put of v at k
  pub record PutInto (v n : ℕ) (t u : Tree Bool K) : Type 0 where
    pub map : MapTree before u
    pub list : entries u ≡ list_put before k v (entries t)
    -- a new key adds the node n, a replaced value none
    pub nodes : (i : ℕ) → occurrences i u ≡ occurrences i t + cond (holds before k t) 0 (cond (i == n) 1 0)

  pub record DroppedFrom (t u : Tree Bool K) : Type 0 where
    pub map : MapTree before u
    pub list : entries u ≡ list_drop before k (entries t)
    -- the node of the key is gone
    pub nodes : (i : ℕ) → occurrences i u + cond (holds before k t) (cond (i == removed_serial before k t) 1 0) 0 ≡ occurrences i t

abbrev pub PutSets : Type 0 → Type 0
PutSets K = (before : K → K → Bool) → KeyOrder before → (k : K) (v n : ℕ) (t : Tree Bool K) → MapTree before t → PutInto before k v n t (put_tree before k v n t)

abbrev pub DropRemoves : Type 0 → Type 0
DropRemoves K = (before : K → K → Bool) → KeyOrder before → (k : K) (t : Tree Bool K) → MapTree before t → DroppedFrom before k t (drop_tree before k t)

abbrev pub TreeAnswers : Type 0 → Type 0
TreeAnswers K = (before : K → K → Bool) → KeyOrder before → (k : K) (t : Tree Bool K) → Sorted before (entries t) → holds before k t ≡ is_some (list_get before k (entries t))

-- a put or drop of k alters what get answers at k alone, and an absent key's drop alters nothing
pub record ListLaws {K : Type 0} (before : K → K → Bool) (k : K) (v : ℕ) (xs : List (Entry K)) : Type 0 where
  pub put_sorted : Sorted before (list_put before k v xs)
  pub drop_sorted : Sorted before (list_drop before k xs)
  pub get_put : (j : K) → list_get before j (list_put before k v xs) ≡ cond (same_key before j k) (Some v) (list_get before j xs)
  pub get_drop : (j : K) → list_get before j (list_drop before k xs) ≡ cond (same_key before j k) None (list_get before j xs)
  pub absent : list_get before k xs ≡ None → list_drop before k xs ≡ xs

abbrev pub ListLawsHold : Type 0 → Type 0
ListLawsHold K = (before : K → K → Bool) → KeyOrder before → (k : K) (v : ℕ) (xs : List (Entry K)) → Sorted before xs → ListLaws before k v xs

abbrev pub RulesAreBalanced : Type 0 → Type 0
RulesAreBalanced K = (t : Tree Bool K) → (RedBlack t → Balanced t) × (Balanced t → red t ≡ false → RedBlack t)

module _ {K : Type 0} (before : K → K → Bool) where
  abbrev pub merge : Tree ℕ K → Tree ℕ K → Tree ℕ K
  merge a b = merged before (rank a + rank b) a b

  -- the job k as the node n; its value is not used
  abbrev pub single : ℕ → K → Tree ℕ K
  single n k = node n 1 (entry k 0) leaf leaf

  abbrev pub pushed : ℕ → K → Tree ℕ K → Tree ℕ K
  pushed n k t = merge t (single n k)

  abbrev pub popped : Tree ℕ K → Tree ℕ K
  popped leaf = leaf
  popped (node n m e l r) = merge l r

  -- the nodes of u are those of a and b: every sum over them is the sum of both
  pub record MergedOf (a b u : Tree ℕ K) : Type 0 where
    pub heap : Heap before u
    pub nodes : (f : ℕ → Entry K → ℕ) → sum_over f u ≡ sum_over f a + sum_over f b
    pub jobs : (k : K) → waiting before k u ≡ waiting before k a + waiting before k b

  pub record PushedTo (n : ℕ) (k : K) (t u : Tree ℕ K) : Type 0 where
    pub heap : Heap before u
    pub nodes : (i : ℕ) → occurrences i u ≡ occurrences i t + cond (i == n) 1 0
    pub jobs : (j : K) → waiting before j u ≡ waiting before j t + cond (same_key before j k) 1 0

  -- k, the key of the root n, goes, and no job goes before it
  pub record PoppedFrom (n : ℕ) (k : K) (t u : Tree ℕ K) : Type 0 where
    pub heap : Heap before u
    pub first : NoneBefore before k t
    pub nodes : (i : ℕ) → occurrences i u + cond (i == n) 1 0 ≡ occurrences i t
    pub jobs : (j : K) → waiting before j u + cond (same_key before j k) 1 0 ≡ waiting before j t

abbrev pub MergeJoins : Type 0 → Type 0
MergeJoins K = (before : K → K → Bool) → KeyOrder before → (a b : Tree ℕ K) → Heap before a → Heap before b → MergedOf before a b (merge before a b)

abbrev pub PushAdds : Type 0 → Type 0
PushAdds K = (before : K → K → Bool) → KeyOrder before → (n : ℕ) (k : K) (t : Tree ℕ K) → Heap before t → PushedTo before n k t (pushed before n k t)

abbrev pub PopTakes : Type 0 → Type 0
PopTakes K = (before : K → K → Bool) → KeyOrder before → (n m : ℕ) (e : Entry K) (l r : Tree ℕ K) → Heap before (node n m e l r) →
    PoppedFrom before n e.key (node n m e l r) (popped before (node n m e l r))

abbrev pub MapIsLow : Type 0 → Type 0
MapIsLow K = (t : Tree Bool K) → RedBlack t → size t ≤ 4096 → height t ≤ 24

abbrev pub HeapIsLow : Type 0 → Type 0
HeapIsLow K = (t : Tree ℕ K) → Leftist t → size t ≤ 4096 → rank t ≤ 12
