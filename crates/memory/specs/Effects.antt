-- What single writes and whole rows of steps leave, for proofs about rows of calls.
--
--   Ends                       a row of steps is accepted to its end, with a property of its answer and of the memory after it
--   Holds                      a register holds a node
--   Free                       a write is allowed, and a change is left
--   Changed                    so many writes of either kind were made, and only the working state may be another
--   Wrote                      one node has become another
--   Linked, Numbered, Rooted   a link, a number, a root was written
use Rattle.std.specs.Prelude.{◌≡◌, ℕ, ◌+◌, ◌<◌, true, Some, Option, ◌≢◌}
use Rattle.memory.specs.Memory.{Node, Memory, changed, hits, with_link, with_number}
use Rattle.memory.specs.Steps.{Done, done, no}

-- the row is accepted, and Q holds of its answer and the memory after it
abbrev pub Ends : {A : Type 0} → Done A → (A → Memory → Type 0) → Type 0
Ends (done a m) Q = Q a m
Ends (no e) Q = ⊥

-- the register r holds the node n with the serial number k
pub record Holds (m : Memory) (r k : ℕ) (n : Node) : Type 0 where
  pub low : r < 40
  pub names : m.regs r ≡ Some k
  pub node : m.state.nodes k ≡ Some n

-- a write is allowed, and a change is left
pub record Free (m : Memory) : Type 0 where
  pub writable : m.writable ≡ true
  pub left : changed m < m.change_limit

-- between m and m' so many link and root writes and so many number writes were accepted; registers, nodes made, limits and rest stay
pub record Changed (links numbers : ℕ) (m m' : Memory) : Type 0 where
  pub regs : (r : ℕ) → m'.regs r ≡ m.regs r
  pub made : m'.made ≡ m.made
  pub linked : m'.linked ≡ m.linked + links
  pub numbered : m'.numbered ≡ m.numbered + numbers
  pub node_limit : m'.node_limit ≡ m.node_limit
  pub change_limit : m'.change_limit ≡ m.change_limit
  pub writable : m'.writable ≡ m.writable
  pub rest : m'.rest ≡ m.rest

-- the node k, and no other, has become n; the roots stay
pub record Wrote (m m' : Memory) (k : ℕ) (n : Node) : Type 0 where
  pub here : m'.state.nodes k ≡ Some n
  pub else : (j : ℕ) → (k ≢ j) → m'.state.nodes j ≡ m.state.nodes j
  pub roots : (i : ℕ) → m'.state.roots i ≡ m.state.roots i

-- the link of the node k, which was n, holds x
pub record Linked (m m' : Memory) (k : ℕ) (n : Node) (side : ℕ) (x : Option ℕ) : Type 0 where
  pub change : Changed 1 0 m m'
  pub wrote : Wrote m m' k (with_link side x n)
  pub named : (i : ℕ) → m'.state.names i + hits i (n.links side) ≡ m.state.names i + hits i x

-- a number of the node k, which was n, is x; no name is another
pub record Numbered (m m' : Memory) (k : ℕ) (n : Node) (field x : ℕ) : Type 0 where
  pub change : Changed 0 1 m m'
  pub wrote : Wrote m m' k (with_number field x n)
  pub named : (i : ℕ) → m'.state.names i ≡ m.state.names i

-- the root i holds x
pub record Rooted (m m' : Memory) (i : ℕ) (x : Option ℕ) : Type 0 where
  pub change : Changed 1 0 m m'
  pub here : m'.state.roots i ≡ x
  pub else : (j : ℕ) → (i ≢ j) → m'.state.roots j ≡ m.state.roots j
  pub nodes : (k : ℕ) → m'.state.nodes k ≡ m.state.nodes k
  pub named : (k : ℕ) → m'.state.names k + hits k (m.state.roots i) ≡ m.state.names k + hits k x
