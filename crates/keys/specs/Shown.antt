-- Keys as text.
--
--   piece_text   file and piece number, a space between
--   job_text     urgency and job number, a space between
use Rattle.std.specs.Prelude.{ℕ, List, ◌∷◌, ◌++◌, ℤ, decimal}
use Rattle.std.specs.Fmt.{signed_decimal}

-- the file's number, a space (byte 32), the piece's number
abbrev pub piece_text : ℕ → ℕ → List ℕ
piece_text file piece = decimal file ++ (32 ∷ decimal piece)

-- the urgency, with a minus where it is below zero, a space, the job's number
abbrev pub job_text : ℤ → ℕ → List ℕ
job_text urgency number = signed_decimal urgency ++ (32 ∷ decimal number)
