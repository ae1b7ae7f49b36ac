-- What each verdict on a file means, for a look-up of its recorded pieces and the fingerprints that it has now.
--
--   AgreeBelow   all pieces with lower numbers are as recorded
--   Judged       the meaning of a verdict: which piece is the first that is not as recorded, and how it differs
--   LowestFrom   the lowest recorded piece from a number on
use Rattle.std.specs.Prelude.{◌≡◌, ℕ, ◌<◌, ◌≤◌, List, length, Some, None, Option, Ok, Err, Result, ◌≢◌, slice_index}
use Rattle.std.specs.List.{slice_get}
use Rattle.history.specs.declared.difference.Difference.{Difference}
use Rattle.history.specs.declared.difference.Difference.TheVariants as is
use Rattle.history.specs.Same.{Unchanged, Present, SomePiece, NoPiece}

-- each piece below k is recorded with its fingerprint, and where there is no such fingerprint it is not recorded
abbrev pub AgreeBelow : (ℕ → Option ℕ) → List ℕ → ℕ → Type 0
AgreeBelow found prints k = (j : ℕ) → j < k → found j ≡ slice_get prints j

-- a file without a difference is unchanged; else the lower pieces agree and piece k does not; with no piece recorded and some fingerprints,
-- the file as a whole is not recorded
abbrev pub Judged : (ℕ → Option ℕ) → List ℕ → Result (Unit {0}) Difference → Type 0
Judged found prints (Ok same) = Unchanged found prints
Judged found prints (Err is.NotRecorded) = (0 < length prints) × NoPiece found
Judged found prints (Err (is.Differs k)) =
    AgreeBelow found prints k × (k < length prints) × Present found k × (found k ≢ Some (slice_index prints k))
Judged found prints (Err (is.Missing k)) =
    AgreeBelow found prints k × (k < length prints) × (found k ≡ None) × SomePiece found
Judged found prints (Err (is.LeftOver k)) =
    AgreeBelow found prints k × (length prints ≤ k) × Present found k

-- k is recorded, from the number on, and none between them is; or none from the number on is
abbrev pub LowestFrom : (ℕ → Option ℕ) → ℕ → Option ℕ → Type 0
LowestFrom found from None = (j : ℕ) → from ≤ j → found j ≡ None
LowestFrom found from (Some k) = (from ≤ k) × Present found k × ((j : ℕ) → from ≤ j → j < k → found j ≡ None)
