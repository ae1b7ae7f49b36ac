-- What a single-version memory means. Births and rest are left open: the calls of a pointer memory neither ask nor change them.
--
--   SameNode      a node is what a row of the table says
--   RowsMean      the table means the nodes and their numbers of names
--   SingleMeans   the memory means an abstract memory
--   SingleAlike   two memories differ at most in their registers
--   RowAt         the row of the node that a register holds, or why there is none
--   Changed       a memory with other rows, and one change more
--   ChangeIs      a memory that is so, or is as it was, and why
--   ChangingIs    the node that a register holds is to be changed
--   RenameIs      a link or root that holds a node is to hold another
use Rattle.std.specs.Prelude.{◌≡◌, ℕ, ◌+◌, ◌<◌, ◌≤◌, true, List, get_or, Some, None, vec_items, Ok, Err, Option, Result, slice_index_or}
use Rattle.memory.specs.Memory.{Memory, Node, changed}
use Rattle.single.specs.declared.node.Node.{Node as Row}
use Rattle.refusals.specs.declared.kinds.MemoryRefusal.{MemoryRefusal}
use Rattle.single.specs.declared.store.SingleMemory.{SingleMemory}
use Rattle.single.specs.Rows.{raised, lowered, node_of, change_left, node_free, name_free}

pub record SameNode (n : Node) (r : Row) : Type 0 where
  pub key : n.key ≡ r.key
  pub value : n.numbers 0 ≡ r.value
  pub mark : n.numbers 1 ≡ r.mark
  pub links : (side : ℕ) → side < 2 → n.links side ≡ slice_index_or r.links side None

pub record RowsMean (rows : List Row) (made : ℕ) (nodes : ℕ → Option Node) (names : ℕ → ℕ) : Type 0 where
  pub node : (k : ℕ) (d : Row) → k < made → (n : Node) × (nodes k ≡ Some n) × SameNode n (slice_index_or rows k d)
  pub named : (k : ℕ) (d : Row) → k < made → names k ≡ (get_or rows k d).names
  pub unborn : (k : ℕ) → made ≤ k → nodes k ≡ None
  pub unnamed : (k : ℕ) → made ≤ k → names k ≡ 0

pub record SingleMeans (s : SingleMemory) (m : Memory) : Type 0 where
  pub roots : (i : ℕ) → i < 3 → m.state.roots i ≡ slice_index_or s.roots i None
  pub regs : (i : ℕ) → i < 40 → m.regs i ≡ slice_index_or s.regs i None
  pub rows : RowsMean (vec_items s.rows) s.made m.state.nodes m.state.names
  pub made : m.made ≡ s.made
  pub changed : changed m ≡ s.changed
  pub node_limit : m.node_limit ≡ s.node_limit
  pub change_limit : m.change_limit ≡ s.change_limit
  pub writable : m.writable ≡ true

pub record SingleAlike (s t : SingleMemory) : Type 0 where
  pub roots : s.roots ≡ t.roots
  pub rows : s.rows ≡ t.rows
  pub made : s.made ≡ t.made
  pub changed : s.changed ≡ t.changed
  pub node_limit : s.node_limit ≡ t.node_limit
  pub change_limit : s.change_limit ≡ t.change_limit

abbrev pub RowAt : SingleMemory → ℕ → Result Row MemoryRefusal → Type 0
RowAt s reg (Ok r) = (k : ℕ) × (node_of s.regs reg ≡ Ok k) × (r ≡ slice_index_or (vec_items s.rows) k r)
RowAt s reg (Err e) = node_of s.regs reg ≡ Err e

pub record Changed (s t : SingleMemory) (xs : List Row) : Type 0 where
  pub roots : t.roots ≡ s.roots
  pub regs : t.regs ≡ s.regs
  pub rows : vec_items t.rows ≡ xs
  pub made : t.made ≡ s.made
  pub changed : t.changed ≡ s.changed + 1
  pub node_limit : t.node_limit ≡ s.node_limit
  pub change_limit : t.change_limit ≡ s.change_limit

abbrev pub ChangeIs : {A : Type 0} → SingleMemory → SingleMemory → List Row → Result A MemoryRefusal → Result A MemoryRefusal → Type 0
ChangeIs s t xs answer (Ok a) = (answer ≡ Ok a) × Changed s t xs
ChangeIs s t xs answer (Err e) = (answer ≡ Err e) × (t ≡ s)

abbrev pub ChangingIs : SingleMemory → SingleMemory → ℕ → Result ℕ MemoryRefusal → Type 0
ChangingIs s t reg result = ChangeIs s t (vec_items s.rows) (node_free (node_of s.regs reg) (change_left s.changed s.change_limit)) result

abbrev pub RenameIs : SingleMemory → SingleMemory → Option ℕ → Option ℕ → Result Unit MemoryRefusal → Type 0
RenameIs s t old new result = ChangeIs s t (lowered (raised (vec_items s.rows) new) old) (name_free (vec_items s.rows) old new (change_left s.changed s.change_limit)) result
