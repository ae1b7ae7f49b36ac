-- When a file is unchanged. The definitions speak only of a look-up, which gives the fingerprint of each piece of the file, or nothing:
-- they hold for every store that can look up pieces.
--
--   Unchanged   a file's pieces are recorded with just the given fingerprints, and no piece more
--   Present     a piece is recorded
--   SomePiece   some piece of the file is recorded
--   NoPiece     no piece of the file is recorded
use Rattle.std.specs.Prelude.{◌≡◌, ℕ, ◌<◌, ◌≤◌, List, length, Some, None, Option, slice_index}

-- piece k has fingerprint k for each k below their number, and there is no piece from that number on
abbrev pub Unchanged : (ℕ → Option ℕ) → List ℕ → Type 0
Unchanged found prints =
    ((k : ℕ) → k < length prints → found k ≡ Some (slice_index prints k))
    × ((k : ℕ) → length prints ≤ k → found k ≡ None)

-- piece k is recorded
abbrev pub Present : (ℕ → Option ℕ) → ℕ → Type 0
Present found k = (print : ℕ) × (found k ≡ Some print)

-- some piece is recorded
abbrev pub SomePiece : (ℕ → Option ℕ) → Type 0
SomePiece found = (k : ℕ) × Present found k

-- no piece is recorded
abbrev pub NoPiece : (ℕ → Option ℕ) → Type 0
NoPiece found = (k : ℕ) → found k ≡ None
