-- The pieces of a file.
--
--   piece_bytes   the bytes of a piece
--   pieces        how many pieces a file has
use Rattle.std.specs.Prelude.{ℕ, ◌+◌, ◌-◌, ◌/◌}

-- a piece has 64 KiB; the last one of a file may have fewer
abbrev pub piece_bytes : ℕ
piece_bytes = 65536

-- a file's length over the bytes of a piece, rounded up
abbrev pub pieces : ℕ → ℕ
pieces length = (length + (piece_bytes - 1)) / piece_bytes
