-- Where an entry goes in a chain.
--
--   Passed     the walk has passed the rows that stay before the entry
--   Replaces   the entry takes the place of a row
--   Enters     the entry goes into a gap
--   Found      one or the other
use Rattle.std.specs.Prelude.{◌≡◌, ℕ, ◌+◌, ◌-◌, ◌<◌, List, ◌∷◌, ◌++◌, slice_index_or, Result, MatchResult}
use Rattle.chain_rows.specs.declared.row.EntryRow.{EntryRow}
use Rattle.chain_rows.specs.declared.row.Gap.{Gap}
use Rattle.fields.specs.Fields.{field_number}
use Rattle.fields.specs.declared.kinds.Field.{Field}
use Rattle.fields.specs.declared.kinds.Value.{Value}
use Rattle.entries.specs.Entries.{entry, put}
use Rattle.chain_rows.specs.Chains.{blank, chain, node, last_of, Within}

-- the first steps rows have been passed, at is the row behind them, left rows are left
pub record Passed (pos : ℕ → ℕ) (k : ℕ) (rows : List EntryRow) (head len : ℕ) (f : Field) (v steps at left : ℕ) : Type 0 where
  pub total : steps + left ≡ len
  pub reached : at ≡ node rows head steps
  pub within : Within k rows at left
  pub puts : (w : Value) → put pos (field_number f) v w (chain rows head len) ≡ chain rows head steps ++ put pos (field_number f) v w (chain rows at left)

-- the new entry takes the place of the row at
pub record Replaces (pos : ℕ → ℕ) (k : ℕ) (rows : List EntryRow) (head len : ℕ) (f : Field) (v at : ℕ) : Type 0 where
  pub steps : ℕ
  pub left : ℕ
  pub passed : Passed pos k rows head len f v steps at left
  pub here : 0 < left
  pub placed : (w : Value) → put pos (field_number f) v w (chain rows at left) ≡ entry v (field_number f) w ∷ chain rows (slice_index_or rows at blank).next (left - 1)

-- the new entry goes behind the last row passed, before the row that follows
pub record Enters (pos : ℕ → ℕ) (k : ℕ) (rows : List EntryRow) (head len : ℕ) (f : Field) (v : ℕ) (gap : Gap) : Type 0 where
  pub steps : ℕ
  pub left : ℕ
  pub passed : Passed pos k rows head len f v steps gap.next left
  pub last : gap.prev ≡ last_of rows head steps
  pub placed : (w : Value) → put pos (field_number f) v w (chain rows gap.next left) ≡ entry v (field_number f) w ∷ chain rows gap.next left

abbrev pub Found : (ℕ → ℕ) → ℕ → List EntryRow → ℕ → ℕ → Field → ℕ → Result ℕ Gap → Type 0
Found pos k rows head len f v r = MatchResult r (λ at. Replaces pos k rows head len f v at) (λ gap. Enters pos k rows head len f v gap)
