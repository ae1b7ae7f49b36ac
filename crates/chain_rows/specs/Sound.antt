-- What a table of chains keeps, whatever the order says.
--
--   chain_at     a chain by its number
--   Apart        no two chains share a row
--   Short        no chain is longer than the rows taken
--   Sound        all of it
--   tables_fit   a table can be made of so many chains and rows
use Rattle.std.specs.Prelude.{◌≡◌, ℕ, ◌<◌, ◌≤◌, Bool, List, nat_lt, slice_index_or}
use Rattle.entries.specs.Entries.{both}
use Rattle.chain_rows.specs.declared.row.EntryRow.{EntryRow}
use Rattle.chain_rows.specs.declared.row.Chain.{Chain}
use Rattle.chain_rows.specs.Chains.{node, Chained}

abbrev pub no_chain : Chain
no_chain = record { head = 0; len = 0 }

abbrev pub chain_at : List Chain → ℕ → Chain
chain_at cs i = slice_index_or cs i no_chain

-- a row stands in one chain
abbrev pub Apart : List Chain → List EntryRow → ℕ → Type 0
Apart cs rows made = (i j a b : ℕ) → i < made → j < made → a < (chain_at cs i).len → b < (chain_at cs j).len → node rows (chain_at cs i).head a ≡ node rows (chain_at cs j).head b → i ≡ j

abbrev pub Short : List Chain → ℕ → ℕ → Type 0
Short cs made used = (i : ℕ) → i < made → (chain_at cs i).len ≤ used

-- each chain's rows are taken, of versions below k and all different; no two chains share a row; lengths are in range
abbrev pub Sound : List Chain → List EntryRow → ℕ → ℕ → ℕ → Type 0
Sound cs rows made used k =
    ((i : ℕ) → i < made → Chained k used rows (chain_at cs i).head (chain_at cs i).len)
    × Apart cs rows made
    × Short cs made used

-- there is a chain, and there are no more chains and rows than any limits ask for
abbrev pub tables_fit : ℕ → ℕ → Bool
tables_fit chains rows = both (nat_lt 0 chains) (both (nat_lt chains 20482) (nat_lt rows 163841))
