use Rattle.books.specs.Books.{book_keys}
use Rattle.places.specs.Places.{KeyLaws}
use Rattle.queues.proofs.Promises.{ordered, pushes}
use Rattle.queues.proofs.push.Goals as goal

pub returns-clause-pushes : goal.returns-clause-pushes
returns-clause-pushes g c =
    let laws : KeyLaws g.K.Key.first = record { irreflexive = g.met.K.Key.irreflexive; transitive = g.met.K.Key.transitive; total = g.met.K.Key.total } in
    pushes {s = c.args.work.now} _ (ordered g.K.Key.first laws (book_keys c.args.book.now)) c.args.place c.join.ensures.runs
