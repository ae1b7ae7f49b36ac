-- The longest word, from its bytes.
use Rattle.std.proofs.Common.{rules, ◌≡◌, codes}
use Rattle.std.proofs.lemmas.Slice.Eq.{text_from_reads}
use Rattle.order_lines.proofs.parse.begun.Goals as goal

pub returns-in_ok-number-in-successor-clause-line : goal.returns-in_ok-number-in-successor-clause-line
returns-in_ok-number-in-successor-clause-line c =
    let word : c.in_ok-next.field-0.now ≡ codes "successor" = text_from_reads _ _ (search rules) (search rules) in
    search (rules, word)
