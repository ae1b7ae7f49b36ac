-- The least of the file's numbers from this one on.
use borrow.Author.Tests.{tests}
use Rattle.std.proofs.Common.{◌≡◌, min, sym, subst, ◌∙◌, rules}
use Rattle.std.specs.List.{reduce}
use Rattle.std.proofs.lemmas.Iterator.{YieldsList-from_slice, YieldsList-from_map}
use Rattle.std.proofs.lemmas.Iterator.Adapters.{option_map_id}
use Rattle.std.proofs.lemmas.Iterator.Consumers.{YieldsList-at, YieldsList-from_filter, min_from_yields_List}
use Rattle.books.specs.Books.{book_keys}
use Rattle.history.specs.Prints.{print_at}
use Rattle.history.specs.Verdicts.{LowestFrom}
use Rattle.history.proofs.Lowest.{of_file_from, numbers_from, lowest_number}
use Rattle.history.proofs.judging.lowest_from.Goals as goal

pub returns : goal.returns
returns c =
    let pieces = book_keys c.args.history.now in
    let is : c.min.result ≡ reduce min (numbers_from c.args.file c.args.from pieces) =
    sym (option_map_id c.min.result)
    ∙ min_from_yields_List c.map.result _ c.min.ensures.ran
    (YieldsList-from_map _ (λ noted. noted.key.piece)
    (YieldsList-at c.map.ensures.source
    (YieldsList-from_filter _ (of_file_from c.args.file c.args.from) (YieldsList-from_slice pieces cc) c.filter.ensures.closure (λ x r q k. search (rules, tests))))
    c.map.ensures.closure (λ x r q k. search rules)) in
    subst (λ o. LowestFrom (print_at pieces c.args.file) c.args.from o) (sym is) (lowest_number c.args.file c.args.from pieces)
