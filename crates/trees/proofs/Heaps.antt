-- Merge, push and pop of leftist heaps.
use Rattle.std.proofs.Common.{◌≡◌, ℕ, zero, suc, ◌+◌, ◌≤◌, Bool, true, false, cond, eqb, refl, arith}
use Rattle.std.proofs.lemmas.Bool.Decides.{nat_tests}
use Rattle.trees.specs.Trees.{Entry, Tree, leaf, node, sum_over}
use Rattle.trees.specs.Lists.{KeyOrder}
use Rattle.trees.specs.Leftist.{rank, Leftist, RootNotBefore, HeapOrdered, joined, merged, same_key, NoneBefore}
use Rattle.trees.specs.Theorems.{Heap, merge, single, MergeJoins, PushAdds, PopTakes}
use Rattle.trees.proofs.Insertion.{by_test}
use Rattle.trees.proofs.Sorting.{asymmetric}

module _ {K : Type 0} where
  pub joined_leftist : (n : ℕ) (e : Entry K) (l x : Tree ℕ K) → Leftist l → Leftist x → Leftist (joined n e l x)
  unfolding joined
  joined_leftist n e l x h g = grind (arith, nat_tests)

  pub joined_sum : (f : ℕ → Entry K → ℕ) (n : ℕ) (e : Entry K) (l x : Tree ℕ K) → sum_over f (joined n e l x) ≡ f n e + sum_over f l + sum_over f x
  unfolding joined
  joined_sum f n e l x = grind arith

module _ {K : Type 0} (before : K → K → Bool) where
  pub joined_ordered : (n : ℕ) (e : Entry K) (l x : Tree ℕ K) → HeapOrdered before l → HeapOrdered before x → RootNotBefore before e.key l → RootNotBefore before e.key x → HeapOrdered before (joined n e l x)
  unfolding joined
  joined_ordered n e l x h g p q = grind arith

  pub joined_root : (k : K) (n : ℕ) (e : Entry K) (l x : Tree ℕ K) → before e.key k ≡ false → RootNotBefore before k (joined n e l x)
  unfolding joined
  joined_root k n e l x h = grind arith

  pub merged_leftist : (g : ℕ) (a b : Tree ℕ K) → Leftist a → Leftist b → Leftist (merged before g a b)
  merged_leftist g leaf b p q = q
  merged_leftist g (node n m e l r) leaf p q = p
  merged_leftist zero (node n m e l r) (node n' m' e' l' r') p q = tt
  merged_leftist (suc g) (node n m e l r) (node n' m' e' l' r') p q =
      by_test Leftist (before e'.key e.key) _ _
      (λ _. joined_leftist n' e' l' _ q.0 (merged_leftist g r' (node n m e l r) q.1 p))
      (λ _. joined_leftist n e l _ p.0 (merged_leftist g r (node n' m' e' l' r') p.1 q))

  pub merged_root : (k : K) (g : ℕ) (a b : Tree ℕ K) → RootNotBefore before k a → RootNotBefore before k b → RootNotBefore before k (merged before g a b)
  merged_root k g leaf b p q = q
  merged_root k g (node n m e l r) leaf p q = p
  merged_root k zero (node n m e l r) (node n' m' e' l' r') p q = tt
  merged_root k (suc g) (node n m e l r) (node n' m' e' l' r') p q =
      by_test (RootNotBefore before k) (before e'.key e.key) _ _ (λ _. joined_root k n' e' l' _ q) (λ _. joined_root k n e l _ p)

  pub merged_ordered : KeyOrder before → (g : ℕ) (a b : Tree ℕ K) → HeapOrdered before a → HeapOrdered before b → HeapOrdered before (merged before g a b)
  merged_ordered o g leaf b p q = q
  merged_ordered o g (node n m e l r) leaf p q = p
  merged_ordered o zero (node n m e l r) (node n' m' e' l' r') p q = tt
  merged_ordered o (suc g) (node n m e l r) (node n' m' e' l' r') p q =
      by_test (HeapOrdered before) (before e'.key e.key) _ _
      (λ t. joined_ordered n' e' l' _ q.0 (merged_ordered o g r' (node n m e l r) q.1 p) q.2 (merged_root e'.key g r' (node n m e l r) q.3 (asymmetric o e'.key e.key t)))
      (λ t. joined_ordered n e l _ p.0 (merged_ordered o g r (node n' m' e' l' r') p.1 q) p.2 (merged_root e.key g r (node n' m' e' l' r') p.3 t))

  pub merged_sum : (f : ℕ → Entry K → ℕ) (g : ℕ) (a b : Tree ℕ K) → Leftist a → Leftist b → rank a + rank b ≤ g → sum_over f (merged before g a b) ≡ sum_over f a + sum_over f b
  merged_sum f g leaf b p q h = omega arith
  merged_sum f g (node n m e l r) leaf p q h = omega arith
  merged_sum f zero (node n m e l r) (node n' m' e' l' r') p q h = omega arith
  merged_sum f (suc g) (node n m e l r) (node n' m' e' l' r') p q h =
      let x = merged_sum f g r' (node n m e l r) q.1 p (omega arith) in
      let y = merged_sum f g r (node n' m' e' l' r') p.1 q (omega arith) in
      by_test (λ t. sum_over f t ≡ sum_over f (node n m e l r) + sum_over f (node n' m' e' l' r')) (before e'.key e.key) _ _
      (λ _. omega (arith, joined_sum f n' e' l' (merged before g r' (node n m e l r))))
      (λ _. omega (arith, joined_sum f n e l (merged before g r (node n' m' e' l' r'))))

  -- as many steps as both ranks together are enough
  pub merged_enough : (g g' : ℕ) (a b : Tree ℕ K) → Leftist a → Leftist b → rank a + rank b ≤ g → rank a + rank b ≤ g' → merged before g a b ≡ merged before g' a b
  merged_enough g g' leaf b p q h h' = refl
  merged_enough g g' (node n m e l r) leaf p q h h' = refl
  merged_enough zero g' (node n m e l r) (node n' m' e' l' r') p q h h' = absurd (omega arith)
  merged_enough (suc g) zero (node n m e l r) (node n' m' e' l' r') p q h h' = absurd (omega arith)
  merged_enough (suc g) (suc g') (node n m e l r) (node n' m' e' l' r') p q h h' =
      let x = merged_enough g g' r' (node n m e l r) q.1 p (omega arith) (omega arith) in
      let y = merged_enough g g' r (node n' m' e' l' r') p.1 q (omega arith) (omega arith) in
      cc

  pub merge_enough : (g : ℕ) (a b : Tree ℕ K) → Leftist a → Leftist b → rank a + rank b ≤ g → merged before g a b ≡ merge before a b
  merge_enough g a b p q h = merged_enough g (rank a + rank b) a b p q h (omega arith)

module _ {K : Type 0} {before : K → K → Bool} (o : KeyOrder before) where
  not_before_chain : (a b c : K) → before b a ≡ false → before c b ≡ false → before c a ≡ false
  not_before_chain a b c x y = go (before c a) (before a b) refl refl
    where
      go : (p q : Bool) → before c a ≡ p → before a b ≡ q → before c a ≡ false
      go false q e f = e
      go true true e f = let z = o.transitive c a b e f in cc
      go true false e f = let z = (o.alike a b f x c).0 in cc

  root_chain : (a b : K) (t : Tree ℕ K) → before b a ≡ false → RootNotBefore before b t → RootNotBefore before a t
  root_chain a b leaf x h = tt
  root_chain a b (node n m f l r) x h = not_before_chain a b f.key x h

  pub none_before : (k : K) (t : Tree ℕ K) → RootNotBefore before k t → HeapOrdered before t → NoneBefore before k t
  none_before k leaf h g = tt
  none_before k (node n m f l r) h g = (h, none_before k l (root_chain k f.key l h g.2) g.0, none_before k r (root_chain k f.key r h g.3) g.1)

pub merge_joins : (K : Type 0) → MergeJoins K
merge_joins K before o a b p q =
    let nodes : (f : ℕ → Entry K → ℕ) → sum_over f (merge before a b) ≡ sum_over f a + sum_over f b = λ f. merged_sum before f (rank a + rank b) a b p.leftist q.leftist (omega arith) in
    record {
      heap = record { leftist = merged_leftist before (rank a + rank b) a b p.leftist q.leftist; ordered = merged_ordered before o (rank a + rank b) a b p.ordered q.ordered };
      nodes = nodes;
      jobs = λ k. nodes (λ n e. cond (same_key before k e.key) 1 0);
    }

pub single_heap : {K : Type 0} (before : K → K → Bool) (n : ℕ) (k : K) → Heap before (single before n k)
single_heap before n k = record { leftist = (tt, tt, omega arith, omega arith); ordered = (tt, tt, tt, tt) }

pub push_adds : (K : Type 0) → PushAdds K
push_adds K before o n k t h =
    let j = merge_joins K before o t (single before n k) h (single_heap before n k) in
    record { heap = j.heap; nodes = λ i. let z = j.nodes (λ m e. cond (eqb i m) 1 0) in omega arith; jobs = λ x. let z = j.jobs x in omega arith }

pub pop_takes : (K : Type 0) → PopTakes K
pop_takes K before o n m e l r h =
    let p = h.leftist in
    let q = h.ordered in
    let j = merge_joins K before o l r (record { leftist = p.0; ordered = q.0 }) (record { leftist = p.1; ordered = q.1 }) in
    record {
      heap = j.heap;
      first = (o.irreflexive e.key, none_before o e.key l q.2 q.0, none_before o e.key r q.3 q.1);
      nodes = λ i. let z = j.nodes (λ x y. cond (eqb i x) 1 0) in omega arith;
      jobs = λ x. let z = j.jobs x in omega arith;
    }
