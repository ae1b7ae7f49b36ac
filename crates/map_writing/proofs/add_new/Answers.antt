use Rattle.books.specs.Books.{book_keys}
use Rattle.map_writing.proofs.Lefts.{added_key}
use Rattle.map_writing.proofs.add_new.Goals as goal

pub returns-clause-meaning : goal.returns-clause-meaning
returns-clause-meaning g c m h = added_key g.K.Key.first (record { irreflexive = g.met.K.Key.irreflexive; transitive = g.met.K.Key.transitive; total = g.met.K.Key.total }) (book_keys c.args.book.now) c.args.key c.args.place c.args.value m (c.add.ensures.runs m h)
