-- Binary trees whose nodes have serial numbers: the shape of the map and of the queues. A side is a Bool: false is left, true is right.
--
--   Entry, entry   a key with its value
--   Tree           leaf, or node: serial number, mark, entry, left and right subtree
--   is_node        whether the tree has a root
--   root_of        the serial number of the root, or nothing
--   child          the subtree on a side
--   with_child     the tree with another subtree on a side
--   with_mark      the tree with another mark at its root
--   node_on        a node, given by the subtree on a side and the subtree on the other side
--   rotated        the child on a side has become the root
--   entries_onto   the entries in order, in front of a list
--   entries        the entries in order
--   height         the nodes on the longest way down
--   sum_over       the sum of a number given for each node
--   size           the number of nodes
--   occurrences    how often a serial number stands in the tree
--   Distinct       no serial number stands twice
use Rattle.std.specs.Prelude.{ℕ, suc, ◌+◌, ◌≤◌, max, Bool, true, false, cond, not, List, [], ◌∷◌, Some, None, Option, ◌==◌}

-- a key, or a key's place in a book, with its value
pub record Entry (K : Type 0) : Type 0 where
  pub key : K
  pub value : ℕ

abbrev pub entry : {K : Type 0} → K → ℕ → Entry K
entry k v = record { key = k; value = v }

-- the mark is a colour in the map and a rank in a queue
pub data Tree (M K : Type 0) : Type 0 where
  leaf : Tree M K
  node : ℕ → M → Entry K → Tree M K → Tree M K → Tree M K

module _ {M K : Type 0} where
  abbrev pub is_node : Tree M K → Bool
  is_node leaf = false
  is_node (node n c e l r) = true

  abbrev pub root_of : Tree M K → Option ℕ
  root_of leaf = None
  root_of (node n c e l r) = Some n

  abbrev pub child : Bool → Tree M K → Tree M K
  child s leaf = leaf
  child s (node n c e l r) = cond s r l

  abbrev pub with_child : Bool → Tree M K → Tree M K → Tree M K
  with_child s leaf u = leaf
  with_child s (node n c e l r) u = cond s (node n c e l u) (node n c e u r)

  abbrev pub with_mark : M → Tree M K → Tree M K
  with_mark d leaf = leaf
  with_mark d (node n c e l r) = node n d e l r

  -- a is the subtree on the side s, b the other one
  abbrev pub node_on : Bool → ℕ → M → Entry K → Tree M K → Tree M K → Tree M K
  node_on s n c e a b = cond s (node n c e b a) (node n c e a b)

  -- the child on the side s becomes the root, and the root its child on the other side
  abbrev pub rotated : Bool → Tree M K → Tree M K
  rotated s t = with_child (not s) (child s t) (with_child s t (child (not s) (child s t)))

  -- in front of a list, so that the list of a rotated tree computes to the list before
  abbrev pub entries_onto : Tree M K → List (Entry K) → List (Entry K)
  entries_onto leaf xs = xs
  entries_onto (node n c e l r) xs = entries_onto l (e ∷ entries_onto r xs)

  abbrev pub entries : Tree M K → List (Entry K)
  entries t = entries_onto t []

  abbrev pub height : Tree M K → ℕ
  height leaf = 0
  height (node n c e l r) = suc (max (height l) (height r))

  abbrev pub sum_over : (ℕ → Entry K → ℕ) → Tree M K → ℕ
  sum_over f leaf = 0
  sum_over f (node n c e l r) = f n e + sum_over f l + sum_over f r

  abbrev pub size : Tree M K → ℕ
  size t = sum_over (λ n e. 1) t

  abbrev pub occurrences : ℕ → Tree M K → ℕ
  occurrences i t = sum_over (λ n e. cond (i == n) 1 0) t

  abbrev pub Distinct : Tree M K → Type 0
  Distinct t = (i : ℕ) → occurrences i t ≤ 1
