-- What the definitions of keys say, in the subject's own words.
--
--   PiecesCover              a file's pieces are the fewest that hold all its bytes
--   EqualNamesAreOne         names with the same bytes are the same value
--   NamesByFirstDifference   which of two strings of bytes goes first, without a recursion
use Rattle.std.specs.Prelude.{◌≡◌, ℕ, ◌*◌, ◌<◌, ◌≤◌, true, ◌⊎◌, List, ◌∷◌, ◌++◌}
use Rattle.keys.specs.declared.name.NameKey.{NameKey}
use Rattle.keys.specs.Pieces.{piece_bytes, pieces}
use Rattle.keys.specs.Bytes.{bytes_first}
use Rattle.keys.specs.Names.{name_bytes}

-- the pieces of a file hold all its bytes, and no smaller number of pieces does
abbrev pub PiecesCover : Type 0
PiecesCover = (size : ℕ) → (size ≤ pieces size * piece_bytes) × ((n : ℕ) → n < pieces size → n * piece_bytes < size)

-- a name is its bytes, whatever it was made from
abbrev pub EqualNamesAreOne : Type 0
EqualNamesAreOne = (a b : NameKey) → name_bytes a ≡ name_bytes b → a ≡ b

-- a goes before b exactly when b goes on where a ends, or both share a front behind which a has the smaller byte
pub record SmallerByte (a b : List ℕ) : Type 0 where
  pub front : List ℕ
  pub x : ℕ
  pub y : ℕ
  pub a_rest : List ℕ
  pub b_rest : List ℕ
  pub a_is : a ≡ front ++ (x ∷ a_rest)
  pub b_is : b ≡ front ++ (y ∷ b_rest)
  pub smaller : x < y

pub record ProperPrefix (a b : List ℕ) : Type 0 where
  pub y : ℕ
  pub rest : List ℕ
  pub b_is : b ≡ a ++ (y ∷ rest)

abbrev pub NamesByFirstDifference : Type 0
NamesByFirstDifference = (a b : List ℕ) →
    (bytes_first a b ≡ true → ProperPrefix a b ⊎ SmallerByte a b) × (ProperPrefix a b ⊎ SmallerByte a b → bytes_first a b ≡ true)
