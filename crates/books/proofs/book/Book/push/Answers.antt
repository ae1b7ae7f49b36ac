use Rattle.std.proofs.Common.{[], ◌∷◌, rules}
use Rattle.std.proofs.lemmas.List.{take_more_set}
use Rattle.books.proofs.book.Book.push.Goals as goal

pub returns-clause-front : goal.returns-clause-front
returns-clause-front g c =
    let more = take_more_set c.args.self.now.slots.now c.args.self.now.len c.args.key (search rules) in
    (c.args.key ∷ [], search rules)
