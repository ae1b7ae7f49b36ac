use Rattle.books.specs.Books.{book_keys}
use Rattle.map_reading.proofs.Tells.{get_told}
use Rattle.map_reading.proofs.value_of.Goals as goal

pub returns-clause-meaning : goal.returns-clause-meaning
returns-clause-meaning g c m h = get_told g.K.Key.first (record { irreflexive = g.met.K.Key.irreflexive; transitive = g.met.K.Key.transitive; total = g.met.K.Key.total }) (book_keys c.args.book.now) c.args.key m (c.get.ensures.runs m h)
