-- What a table of chains says of the entries of a chain, and what a call may alter.
--
--   entries_of   the entries of a chain
--   asked        a call that the table answers: the chain is there, the version known, and the order has as many versions as the table
--   Alters       one chain becomes a given list, and the others stay
--   Made         the table at its making
--   Adds         a chain without entries comes in
--   Opens        one version more
--   Cuts         a chain is parted at a version, and what stands behind it is a new chain
use Rattle.std.specs.Prelude.{◌≡◌, ℕ, ◌+◌, ◌-◌, ◌<◌, ◌≤◌, Bool, true, cond, List, [], length, vec_items, vec_len, ◌==◌, ◌≢◌, nat_lt}
use Rattle.fields.specs.declared.kinds.Value.{Value}
use Rattle.entries.specs.Entries.{Entry, Sorted, both, entries_before, entries_behind}
use Rattle.chains.specs.declared.table.ChainTable.{ChainTable}
use Rattle.chain_rows.specs.Chains.{chain}
use Rattle.chain_rows.specs.Sound.{chain_at, tables_fit}

abbrev pub entries_of : ChainTable → ℕ → List (Entry Value)
entries_of t i = chain (vec_items t.rows) (chain_at (vec_items t.chains) i).head (chain_at (vec_items t.chains) i).len

-- the chain i is in use, the version v is known, and the order has n versions, as many as the table
abbrev pub asked : ChainTable → ℕ → ℕ → ℕ → Bool
asked t n i v = both (nat_lt i t.made) (both (nat_lt v t.versions) (n == t.versions))

-- the chain i becomes new, where the call is one that the table answers and the rows that come in are free; the other chains stay
pub record Alters (answered : Bool) (t t' : ChainTable) (i : ℕ) (new : List (Entry Value)) : Type 0 where
  pub made : t'.made ≡ t.made
  pub versions : t'.versions ≡ t.versions
  pub chains : vec_len t'.chains ≡ vec_len t.chains
  pub rows : vec_len t'.rows ≡ vec_len t.rows
  pub others : (j : ℕ) → j < t.made → (j ≢ i) → entries_of t' j ≡ entries_of t j
  pub here : answered ≡ true → t.used + (length new - length (entries_of t i)) ≤ vec_len t.rows
      → (entries_of t' i ≡ new) × (t'.used + length (entries_of t i) ≡ t.used + length new)

-- the chain c keeps its entries before x, and a new chain, the last, has those behind x, where the call is one that the table answers, a
-- chain is free, and the order sorts the entries; the rows at x are given up; the other chains stay
pub record Cuts (answered : Bool) (pos : ℕ → ℕ) (c x : ℕ) (t t' : ChainTable) : Type 0 where
  pub versions : t'.versions ≡ t.versions
  pub chains : vec_len t'.chains ≡ vec_len t.chains
  pub rows : vec_len t'.rows ≡ vec_len t.rows
  pub used : t'.used ≡ t.used
  pub others : (j : ℕ) → j < t.made → (j ≢ c) → entries_of t' j ≡ entries_of t j
  pub made : answered ≡ true → t.made < vec_len t.chains → t'.made ≡ t.made + 1
  pub front : answered ≡ true → t.made < vec_len t.chains → Sorted pos (entries_of t c) → entries_of t' c ≡ entries_before pos (pos x) (entries_of t c)
  pub back : answered ≡ true → t.made < vec_len t.chains → Sorted pos (entries_of t c) → entries_of t' t.made ≡ entries_behind pos (pos x) (entries_of t c)

-- a new chain, the last, has no entries, where one is free; the others stay
pub record Adds (t t' : ChainTable) : Type 0 where
  pub versions : t'.versions ≡ t.versions
  pub chains : vec_len t'.chains ≡ vec_len t.chains
  pub rows : vec_len t'.rows ≡ vec_len t.rows
  pub used : t'.used ≡ t.used
  pub others : (j : ℕ) → j < t.made → entries_of t' j ≡ entries_of t j
  pub made : t.made < vec_len t.chains → t'.made ≡ t.made + 1
  pub here : t.made < vec_len t.chains → entries_of t' t.made ≡ []

-- one version more, up to 4,096; the chains stay
pub record Opens (t t' : ChainTable) : Type 0 where
  pub versions : t'.versions ≡ cond (nat_lt t.versions 4096) (t.versions + 1) t.versions
  pub made : t'.made ≡ t.made
  pub chains : vec_len t'.chains ≡ vec_len t.chains
  pub rows : vec_len t'.rows ≡ vec_len t.rows
  pub used : t'.used ≡ t.used
  pub others : (j : ℕ) → entries_of t' j ≡ entries_of t j

-- a table of so many chains and rows: the chain 0 is in use, without entries, no row is taken, and there is one version
pub record Made (chains rows : ℕ) (t : ChainTable) : Type 0 where
  pub fit : tables_fit chains rows ≡ true
  pub chains_are : vec_len t.chains ≡ chains
  pub rows_are : vec_len t.rows ≡ rows
  pub made : t.made ≡ 1
  pub used : t.used ≡ 0
  pub versions : t.versions ≡ 1
  pub empty : entries_of t 0 ≡ []
