use Rattle.books.specs.Books.{book_keys}
use Rattle.map_writing.proofs.Lefts.{replaced_value}
use Rattle.map_writing.proofs.replace.Goals as goal

pub returns-clause-meaning : goal.returns-clause-meaning
returns-clause-meaning g c m h = replaced_value g.K.Key.first (record { irreflexive = g.met.K.Key.irreflexive; transitive = g.met.K.Key.transitive; total = g.met.K.Key.total }) (book_keys c.args.book.now) c.args.key c.args.value m (c.set.ensures.runs m h)
