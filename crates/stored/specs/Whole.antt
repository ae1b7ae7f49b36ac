-- The whole working state of a memory: the map and both queues, and nothing else.
--
--   Trees       three roots hold three trees that share no node; every name and every link is one of theirs
--   Whole       the map at root 0, due at root 1, held at root 2
--   Stands      the invariant of a version: the rules of the map's tree and of both heaps, too
--   Room        an update may be made: writes are allowed, and 160 changes are left
--   Spent       what an update spends at most, and what it leaves alone
--   Untouched   only registers have changed
use Rattle.std.specs.Prelude.{◌≡◌, ℕ, ◌+◌, ◌<◌, ◌≤◌, Bool, true, Some, None}
use Rattle.trees.specs.Trees.{Tree, root_of, occurrences}
use Rattle.trees.specs.Theorems.{MapTree, Heap}
use Rattle.memory.specs.Memory.{Node, Memory, changed}
use Rattle.stored.specs.Stored.{side, colour, as_rank, Stored}

pub record Trees {M N P : Type 0} (f : M → ℕ) (g : N → ℕ) (h : P → ℕ) (i j k : ℕ) (m : Memory) (t : Tree M ℕ) (u : Tree N ℕ) (v : Tree P ℕ) : Type 0 where
  -- the roots i, j and k hold the roots of t, u and v
  pub first : m.state.roots i ≡ root_of t
  pub second : m.state.roots j ≡ root_of u
  pub third : m.state.roots k ≡ root_of v
  -- their nodes stand in the memory
  pub stored_first : Stored f m.state.nodes t
  pub stored_second : Stored g m.state.nodes u
  pub stored_third : Stored h m.state.nodes v
  -- each node stands once, in one of them, and was made
  pub distinct : (n : ℕ) → occurrences n t + occurrences n u + occurrences n v ≤ 1
  pub within : (n : ℕ) → 1 ≤ occurrences n t + occurrences n u + occurrences n v → n < m.made
  -- a node of a tree has one name, any other none
  pub named : (n : ℕ) → m.state.names n ≡ occurrences n t + occurrences n u + occurrences n v
  -- a node that stands in none of them has no links
  pub bare : (n : ℕ) (x : Node) (s : Bool) → n < m.made → occurrences n t + occurrences n u + occurrences n v ≡ 0 → m.state.nodes n ≡ Some x → x.links (side s) ≡ None

abbrev pub Whole : Memory → Tree Bool ℕ → Tree ℕ ℕ → Tree ℕ ℕ → Type 0
Whole m map due held = Trees colour as_rank as_rank 0 1 2 m map due held

-- keys are places in a book: before is the order of the map's keys, sooner that of the jobs
pub record Stands (before sooner : ℕ → ℕ → Bool) (m : Memory) (map : Tree Bool ℕ) (due held : Tree ℕ ℕ) : Type 0 where
  pub whole : Whole m map due held
  pub map_tree : MapTree before map
  pub due_heap : Heap sooner due
  pub held_heap : Heap sooner held

pub record Room (m : Memory) : Type 0 where
  pub writable : m.writable ≡ true
  pub changes : changed m + 160 ≤ m.change_limit
  -- no memory has more nodes than this
  pub nodes : m.made ≤ 4096

-- nodes is how many are made
pub record Spent (m m' : Memory) (nodes : ℕ) : Type 0 where
  pub linked : m'.linked ≤ m.linked + 100
  pub numbered : m'.numbered ≤ m.numbered + 100
  pub changed : changed m' ≤ changed m + 160
  pub made : m'.made ≡ m.made + nodes
  pub node_limit : m'.node_limit ≡ m.node_limit
  pub change_limit : m'.change_limit ≡ m.change_limit
  pub writable : m'.writable ≡ m.writable
  pub rest : m'.rest ≡ m.rest

pub record Untouched (m m' : Memory) : Type 0 where
  pub state : m'.state ≡ m.state
  pub made : m'.made ≡ m.made
  pub linked : m'.linked ≡ m.linked
  pub numbered : m'.numbered ≡ m.numbered
  pub node_limit : m'.node_limit ≡ m.node_limit
  pub change_limit : m'.change_limit ≡ m.change_limit
  pub writable : m'.writable ≡ m.writable
  pub rest : m'.rest ≡ m.rest
