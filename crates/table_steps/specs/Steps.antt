-- When a table of copies is in order, and when it has become other copies.
--
--   AllStored, Fielded   entries, and a table, of fields that a row has a place for
--   InOrder              the table's copies are sound over the order, each knows the next of its node, and its rows are placed
--   Becomes              after a call the table holds the given copies, with so many entries more ever used
--   FreeRows, FreeCopy   so many rows of entries are free; a copy is free
use Rattle.std.specs.Prelude.{◌≡◌, ℕ, ◌+◌, ◌<◌, ◌≤◌, true, List, [], ◌∷◌, length, vec_len, Option, ◌≢◌}
use Rattle.fields.specs.declared.kinds.Value.{Value}
use Rattle.entries.specs.Entries.{Entry}
use Rattle.order.specs.Items.{position}
use Rattle.slices.specs.Copies.{Copies, Sound}
use Rattle.slices.specs.Threads.{Threaded}
use Rattle.same_copies.specs.Same.{SameCopies}
use Rattle.chains.specs.Views.{entries_of}
use Rattle.copy_rows.specs.Rows.{stored}
use Rattle.copies.specs.declared.table.CopyTable.{CopyTable}
use Rattle.copies.specs.Views.{Placed, copies_of, next_of}

-- a row has a place for the field of each entry
abbrev pub AllStored : List (Entry Value) → Type 0
AllStored [] = Unit {0}
AllStored (e ∷ es) = (stored e.field ≡ true) × AllStored es

-- the entries of nodes are of fields that a row has a place for; the root record alone has a third link
pub record Fielded (t : CopyTable) : Type 0 where
  pub stored : (i : ℕ) → i < t.chains.made → (i ≢ 0) → AllStored (entries_of t.chains i)

-- xs is the list of the version order
pub record InOrder (xs : List ℕ) (t : CopyTable) : Type 0 where
  pub placed : Placed t
  pub fielded : Fielded t
  pub counted : t.chains.versions ≡ length xs
  pub sound : Sound (position xs) (copies_of t)
  pub threaded : Threaded (position xs) (copies_of t) (next_of t)

-- the copies are those of D, next gives the next copy of each, more entries were taken from the rows, and the tables are as long as before
pub record Becomes (D : Copies) (next : ℕ → Option ℕ) (more : ℕ) (t t' : CopyTable) : Type 0 where
  pub same : SameCopies D (copies_of t')
  pub nexts : (i : ℕ) → i < D.total → next_of t' i ≡ next i
  pub used : t'.chains.used ≡ t.chains.used + more
  pub placed : Placed t'
  pub fielded : Fielded t'
  pub long : vec_len t'.copies ≡ vec_len t.copies
  pub heads : vec_len t'.chains.chains ≡ vec_len t.chains.chains
  pub rows : vec_len t'.chains.rows ≡ vec_len t.chains.rows

-- n rows of entries are free
abbrev pub FreeRows : ℕ → CopyTable → Type 0
FreeRows n t = t.chains.used + n ≤ vec_len t.chains.rows

-- a copy is free, with its chain
abbrev pub FreeCopy : CopyTable → Type 0
FreeCopy t = (t.chains.made ≤ vec_len t.copies) × (t.chains.made < vec_len t.chains.chains)
