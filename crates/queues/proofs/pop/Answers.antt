use Rattle.books.specs.Books.{book_keys}
use Rattle.places.specs.Places.{KeyLaws}
use Rattle.queues.proofs.Promises.{ordered, pops}
use Rattle.queues.proofs.pop.Goals as goal

pub returns-clause-pops : goal.returns-clause-pops
returns-clause-pops g c =
    let laws : KeyLaws g.K.Key.first = record { irreflexive = g.met.K.Key.irreflexive; transitive = g.met.K.Key.transitive; total = g.met.K.Key.total } in
    pops {s = c.args.work.now} _ (ordered g.K.Key.first laws (book_keys c.args.book.now)) c.pop.ensures.runs
