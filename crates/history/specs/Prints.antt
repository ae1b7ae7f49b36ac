-- Looking up the fingerprint of a piece among recorded pieces.
--
--   is_piece   a key is the one of that piece of that file
--   print_at   the fingerprint first recorded for a piece of a file, or nothing
--   found_in   the look-up of a file's pieces in a history
use Rattle.std.specs.Prelude.{ℕ, Bool, ◌&&◌, List, find, Option, ◌==◌}
use Rattle.std.specs.Option.{option_map}
use Rattle.books.specs.declared.book.Book.{Book}
use Rattle.books.specs.Books.{book_keys}
use Rattle.keys.specs.declared.piece.PieceKey.{PieceKey}
use Rattle.history.specs.declared.record.NotedPiece.{NotedPiece}

-- the key has this file's number, and this piece's
abbrev pub is_piece : PieceKey → ℕ → ℕ → Bool
is_piece key file piece = (key.file == file) && (key.piece == piece)

-- of the recorded pieces, in the order of their arrival, the first one with this file and piece decides
abbrev pub print_at : List NotedPiece → ℕ → ℕ → Option ℕ
print_at pieces file piece = option_map (λ noted. noted.print) (find (λ noted. is_piece noted.key file piece) pieces)

-- the fingerprint of each piece of the file, as recorded in the book
abbrev pub found_in : Book NotedPiece → ℕ → ℕ → Option ℕ
found_in history file piece = print_at (book_keys history) file piece
