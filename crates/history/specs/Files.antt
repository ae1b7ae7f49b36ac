-- Recording all pieces of a file.
--
--   noted          a piece with its fingerprint
--   file_pieces    the pieces of a file with their fingerprints, numbered from k on
--   fits           a book has room for them, and each has a number of 32 bits
--   file_answer    the answer of `note_file`: refused 13 where they do not fit
--   pieces_after   what is recorded after it
use Rattle.std.specs.Prelude.{ℕ, suc, ◌+◌, ◌^◌, Bool, cond, ◌&&◌, List, [], ◌∷◌, ◌++◌, length, Ok, Err, Result, nat_le, nat_lt}
use Rattle.refusals.specs.declared.kinds.BookRefusal.{BookRefusal}
use Rattle.refusals.specs.declared.kinds.BookRefusal.TheVariants.{Full}
use Rattle.history.specs.declared.record.NotedPiece.{NotedPiece}

-- piece k of the file, with its fingerprint
abbrev pub noted : ℕ → ℕ → ℕ → NotedPiece
noted file k print = record { key = record { file = file; piece = k }; print = print }

-- piece k with the first fingerprint, piece k + 1 with the next, and so on
abbrev pub file_pieces : ℕ → ℕ → List ℕ → List NotedPiece
file_pieces file k [] = []
file_pieces file k (print ∷ prints) = noted file k print ∷ file_pieces file (suc k) prints

-- all pieces find a place, and the last one's number has 32 bits
abbrev pub fits : List NotedPiece → ℕ → List ℕ → Bool
fits pieces room prints = nat_le (length pieces + length prints) room && nat_lt (length prints) (2 ^ 32)

-- refused where they do not fit
abbrev pub file_answer : List NotedPiece → ℕ → List ℕ → Result (Unit {0}) BookRefusal
file_answer pieces room prints = cond (fits pieces room prints) (Ok tt) (Err Full)

-- the file's pieces behind what was recorded, or that alone where they do not fit
abbrev pub pieces_after : List NotedPiece → ℕ → ℕ → List ℕ → List NotedPiece
pieces_after pieces room file prints = cond (fits pieces room prints) (pieces ++ file_pieces file 0 prints) pieces
