-- How far a walk goes that passes the leading rows of some versions.
--
--   Skipped   what is left of the chain, and what its rows' versions say
use Rattle.std.specs.Prelude.{◌≡◌, ℕ, ◌-◌, ◌<◌, ◌≤◌, List, slice_index_or}
use Rattle.chain_rows.specs.declared.row.EntryRow.{EntryRow}
use Rattle.chain_rows.specs.declared.row.Chain.{Chain}
use Rattle.chain_rows.specs.Chains.{blank, node}

-- rest is what is left of a chain behind all rows passed: the version of each row passed meets Yes, and that of the next row meets No
pub record Skipped (Yes No : ℕ → Type 0) (rows : List EntryRow) (from rest : Chain) : Type 0 where
  pub short : rest.len ≤ from.len
  pub reached : rest.head ≡ node rows from.head (from.len - rest.len)
  pub front : (a : ℕ) → a < from.len - rest.len → Yes (slice_index_or rows (node rows from.head a) blank).version
  pub stops : 0 < rest.len → No (slice_index_or rows rest.head blank).version
