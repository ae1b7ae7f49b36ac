use Rattle.books.specs.Books.{book_keys}
use Rattle.places.specs.Places.{KeyLaws}
use Rattle.queues.proofs.Promises.{ordered, releases}
use Rattle.queues.proofs.release.Goals as goal

pub returns-clause-releases : goal.returns-clause-releases
returns-clause-releases g c =
    let laws : KeyLaws g.K.Key.first = record { irreflexive = g.met.K.Key.irreflexive; transitive = g.met.K.Key.transitive; total = g.met.K.Key.total } in
    releases {s = c.args.work.now} _ (ordered g.K.Key.first laws (book_keys c.args.book.now)) c.release.ensures.runs
