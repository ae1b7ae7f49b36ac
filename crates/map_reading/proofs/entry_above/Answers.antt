use Rattle.books.specs.Books.{book_keys}
use Rattle.map_reading.proofs.Tells.{above_told}
use Rattle.map_reading.proofs.entry_above.Goals as goal

pub returns-clause-meaning : goal.returns-clause-meaning
returns-clause-meaning g c m h = above_told g.K.Key.first (record { irreflexive = g.met.K.Key.irreflexive; transitive = g.met.K.Key.transitive; total = g.met.K.Key.total }) (book_keys c.args.book.now) c.args.key m (c.next.ensures.runs.runs m h)
