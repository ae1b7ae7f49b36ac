-- Reading and writing are inverse: a text is read exactly where it is what is written.
--
--   NumbersReadBack, NumbersAreWritten     for unsigned numbers of up to 64 bits
--   IntegersReadBack, IntegersAreWritten   for signed 32-bit numbers
--   PartsJoin, PartsSplit                  for parts with a byte between them, as words
--   PiecesReadBack, PiecesAreWritten       for piece keys
--   JobsReadBack, JobsAreWritten           for job keys
--
-- What is written of a number is the standard library's `decimal n`, its digits without leading zeros, and `signed z`, the
-- same behind a minus where z is below zero.
use Rattle.std.specs.Prelude.{◌≡◌, ℕ, ◌^◌, ◌<◌, ◌≤◌, List, [], ◌∷◌, ◌++◌, length, ℤ, Some, decimal, FitsSigned}
use Rattle.std.specs.Int.{w32}
use Rattle.std.specs.Fmt.{signed_decimal}
use Rattle.keys.specs.declared.piece.PieceKey.{PieceKey}
use Rattle.keys.specs.declared.job.JobKey.{JobKey}
use Rattle.keys.specs.Shown.{piece_text, job_text}
use Rattle.text.specs.Numbers.{number_of, integer_of}
use Rattle.text.specs.Parts.{parts, joined, Without, words}
use Rattle.text.specs.Keyed.{piece_of, job_of}

-- what is written of a number of k bits is read as that number
abbrev pub NumbersReadBack : Type 0
NumbersReadBack = (k n : ℕ) → k ≤ 64 → n < 2 ^ k → number_of k (decimal n) ≡ Some n

-- what is read as a number is what is written of it, and the number has k bits
abbrev pub NumbersAreWritten : Type 0
NumbersAreWritten = (k n : ℕ) (text : List ℕ) → k ≤ 64 → number_of k text ≡ Some n → (text ≡ decimal n) × (n < 2 ^ k)

abbrev pub IntegersReadBack : Type 0
IntegersReadBack = (z : ℤ) → FitsSigned w32 z → integer_of (signed_decimal z) ≡ Some z

abbrev pub IntegersAreWritten : Type 0
IntegersAreWritten = (z : ℤ) (text : List ℕ) → integer_of text ≡ Some z → (text ≡ signed_decimal z) × FitsSigned w32 z

-- a text is its parts with s between them
abbrev pub PartsJoin : Type 0
PartsJoin = (s : ℕ) (text : List ℕ) → joined s (parts s text) ≡ text

-- a part without s, an s and a text are cut into the part and the text's parts
abbrev pub PartsSplit : Type 0
PartsSplit = (s : ℕ) (w text : List ℕ) → Without s w → (parts s w ≡ w ∷ []) × (parts s (w ++ (s ∷ text)) ≡ w ∷ parts s text)

-- what is written of a piece key is read as that key
abbrev pub PiecesReadBack : Type 0
PiecesReadBack = (k : PieceKey) → k.file < 2 ^ 32 → k.piece < 2 ^ 32 → piece_of (words (piece_text k.file k.piece)) ≡ Some k

-- a text of two words that is read as a piece key is what is written of it
abbrev pub PiecesAreWritten : Type 0
PiecesAreWritten = (k : PieceKey) (text : List ℕ) → length (words text) ≡ 2 → piece_of (words text) ≡ Some k → text ≡ piece_text k.file k.piece

abbrev pub JobsReadBack : Type 0
JobsReadBack = (k : JobKey) → FitsSigned w32 k.urgency → k.number < 2 ^ 32 → job_of (words (job_text k.urgency k.number)) ≡ Some k

abbrev pub JobsAreWritten : Type 0
JobsAreWritten = (k : JobKey) (text : List ℕ) → length (words text) ≡ 2 → job_of (words text) ≡ Some k → text ≡ job_text k.urgency k.number
