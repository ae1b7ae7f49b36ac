use Rattle.books.specs.Books.{book_keys, SameSlots}
use Rattle.history.proofs.Noting.{Noting}
use Rattle.history.proofs.notes.note_file.Given as goal

abbrev pub invariant-loop-k : goal.invariant-loop-k
invariant-loop-k l = record { pieces : Noting (book_keys l.initial.history) (book_keys l.history) l.file l.prints l.k; slots : SameSlots l.initial.history l.history }
