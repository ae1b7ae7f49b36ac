-- A key of the file means a piece of it; none among all keys means no piece.
use borrow.Author.Tests.{tests}
use Rattle.std.proofs.Common.{◌≡◌, sym, ◌∙◌, rules}
use Rattle.std.specs.List.{list_any}
use Rattle.std.proofs.lemmas.Iterator.{YieldsList-from_slice}
use Rattle.std.proofs.lemmas.Iterator.Search.{any_from_yields_List}
use Rattle.books.specs.Books.{book_keys}
use Rattle.history.proofs.Lookups.{of_file, some_of_file, none_of_file}
use Rattle.history.proofs.judging.records.Goals as goal

pub returns : goal.returns
returns c =
    let pieces = book_keys c.args.history.now in
    let is : c.any.result ≡ list_any (of_file c.args.file) pieces =
    any_from_yields_List (of_file c.args.file) _ _ c.any.result c.any.ensures.ran (YieldsList-from_slice pieces cc) (λ x b q k. search (rules, tests)) in
    record { some = λ t. some_of_file c.args.file pieces (sym is ∙ t); none = λ t. none_of_file c.args.file pieces (sym is ∙ t) }
