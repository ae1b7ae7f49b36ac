use Rattle.books.specs.Books.{book_keys}
use Rattle.places.specs.Places.{KeyLaws}
use Rattle.map_remove.proofs.Whole.{drops}
use Rattle.map_remove.proofs.drop_key.Goals as goal

pub returns-clause-drops : goal.returns-clause-drops
returns-clause-drops g c =
    let laws : KeyLaws g.K.Key.first = record { irreflexive = g.met.K.Key.irreflexive; transitive = g.met.K.Key.transitive; total = g.met.K.Key.total } in
    drops g.K.Key.first (book_keys c.args.book.now) c.args.key laws c.drop_row.ensures.runs
