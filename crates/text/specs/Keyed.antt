-- Keys read from words.
--
--   piece_of   the piece key that the first two words write, or nothing
--   job_of     the job key that the first two words write, or nothing
use Rattle.std.specs.Prelude.{ℕ, List, ℤ, Option}
use Rattle.keys.specs.declared.piece.PieceKey.{PieceKey}
use Rattle.keys.specs.declared.job.JobKey.{JobKey}
use Rattle.text.specs.Numbers.{number_of, integer_of, both}
use Rattle.text.specs.Left.{behind_first, read_first}

abbrev pub piece_key : ℕ → ℕ → PieceKey
piece_key file piece = record { file = file; piece = piece }

abbrev pub job_key : ℤ → ℕ → JobKey
job_key urgency number = record { urgency = urgency; number = number }

-- a file's number and a piece's, 32 bits each
abbrev pub piece_of : List (List ℕ) → Option PieceKey
piece_of ws = both piece_key (read_first (number_of 32) ws) (read_first (number_of 32) (behind_first ws))

-- a signed urgency and a job's number, 32 bits each
abbrev pub job_of : List (List ℕ) → Option JobKey
job_of ws = both job_key (read_first integer_of ws) (read_first (number_of 32) (behind_first ws))
