-- Trees that stand in a memory: their nodes by serial number, their links, and how often each node is named.
--
--   side        the number of a side's link: link 0 is left, link 1 right
--   NodeAt      a node of a tree stands in the memory: its key place, value, mark and both links
--   Stored      all nodes of a tree stand in the memory
--   inside      how often the links inside a tree name a node
--   NamedOnce   each node of a tree has one name at most
--   as_rank     a rank is written as it is
--   colour      the number of a colour: black 0, red 1
use Rattle.std.specs.Prelude.{◌≡◌, ℕ, ◌+◌, ◌≤◌, Bool, true, false, cond, not, Some, Option}
use Rattle.trees.specs.Trees.{Entry, Tree, leaf, node, root_of, occurrences}
use Rattle.memory.specs.Memory.{Node, Memory, hits}

abbrev pub side : Bool → ℕ
side true = 1
side false = 0

abbrev pub colour : Bool → ℕ
colour c = cond c 1 0

abbrev pub as_rank : ℕ → ℕ
as_rank m = m

module _ {M : Type 0} (enc : M → ℕ) (nodes : ℕ → Option Node) where
  -- The node n with the mark c, the entry e, a on the side s and b on the other. A key is its place in a book; enc gives the number of a
  -- mark.
  pub record NodeAt (s : Bool) (n : ℕ) (c : M) (e : Entry ℕ) (a b : Tree M ℕ) : Type 0 where
    pub it : Node
    pub there : nodes n ≡ Some it
    pub key : it.key ≡ e.key
    pub value : it.numbers 0 ≡ e.value
    pub mark : it.numbers 1 ≡ enc c
    pub near : it.links (side s) ≡ root_of a
    pub far : it.links (side (not s)) ≡ root_of b

  abbrev pub Stored : Tree M ℕ → Type 0
  Stored leaf = Unit {0}
  Stored (node n c e l r) = NodeAt false n c e l r × Stored l × Stored r

module _ {M : Type 0} where
  abbrev pub inside : ℕ → Tree M ℕ → ℕ
  inside i leaf = 0
  inside i (node n c e l r) = hits i (root_of l) + hits i (root_of r) + inside i l + inside i r

  abbrev pub NamedOnce : Memory → Tree M ℕ → Type 0
  NamedOnce m t = (i : ℕ) → 1 ≤ occurrences i t → m.state.names i ≤ 1
