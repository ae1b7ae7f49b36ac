-- Leftist heaps: the mark of a node is its rank.
--
--   rank            the rank that the root's mark says; nil has rank 0
--   Leftist         the left rank is at least the right, and a node's mark is one more than the smaller child's rank
--   RootNotBefore   the root's key does not go before a key
--   HeapOrdered     no key goes before its parent's
--   joined          a node over two heaps, the one of the larger rank on the left
--   merged          two heaps in one
--   same_key        two keys of which neither goes before the other
--   waiting         how often a key waits in a heap
--   NoneBefore      no key of a heap goes before a key
use Rattle.std.specs.Prelude.{◌≡◌, ℕ, zero, suc, ◌≤◌, min, Bool, false, cond, not, ◌&&◌, nat_le}
use Rattle.trees.specs.Trees.{Entry, Tree, leaf, node, sum_over}

module _ {K : Type 0} where
  abbrev pub rank : Tree ℕ K → ℕ
  rank leaf = 0
  rank (node n m e l r) = m

  abbrev pub Leftist : Tree ℕ K → Type 0
  Leftist leaf = Unit {0}
  Leftist (node n m e l r) = Leftist l × Leftist r × (rank r ≤ rank l) × (m ≡ suc (min (rank l) (rank r)))

  unfoldable pub joined : ℕ → Entry K → Tree ℕ K → Tree ℕ K → Tree ℕ K
  joined n e l x = cond (nat_le (rank x) (rank l)) (node n (suc (rank x)) e l x) (node n (suc (rank l)) e x l)

module _ {K : Type 0} (before : K → K → Bool) where
  abbrev pub RootNotBefore : K → Tree ℕ K → Type 0
  RootNotBefore k leaf = Unit {0}
  RootNotBefore k (node n m e l r) = before e.key k ≡ false

  abbrev pub HeapOrdered : Tree ℕ K → Type 0
  HeapOrdered leaf = Unit {0}
  HeapOrdered (node n m e l r) = HeapOrdered l × HeapOrdered r × RootNotBefore e.key l × RootNotBefore e.key r

  -- The roots go down the right-hand ways of both heaps, in at most g steps; both ranks together are enough.
  abbrev pub merged : ℕ → Tree ℕ K → Tree ℕ K → Tree ℕ K
  merged g leaf b = b
  merged g (node n m e l r) leaf = node n m e l r
  merged zero (node n m e l r) (node n' m' e' l' r') = leaf
  merged (suc g) (node n m e l r) (node n' m' e' l' r') =
      cond (before e'.key e.key) (joined n' e' l' (merged g r' (node n m e l r))) (joined n e l (merged g r (node n' m' e' l' r')))

  abbrev pub same_key : K → K → Bool
  same_key a b = not (before a b) && not (before b a)

  abbrev pub waiting : K → Tree ℕ K → ℕ
  waiting k t = sum_over (λ n e. cond (same_key k e.key) 1 0) t

  abbrev pub NoneBefore : K → Tree ℕ K → Type 0
  NoneBefore k leaf = Unit {0}
  NoneBefore k (node n m e l r) = (before e.key k ≡ false) × NoneBefore k l × NoneBefore k r
