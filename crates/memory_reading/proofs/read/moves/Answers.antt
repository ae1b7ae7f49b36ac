-- The longest word, from its bytes.
use Rattle.std.proofs.Common.{rules, ◌≡◌, codes}
use Rattle.std.proofs.lemmas.Slice.Eq.{text_from_reads}
use Rattle.memory_reading.proofs.read.moves.Goals as goal

pub returns-in_ok-number-in-follow-3-clause-call : goal.returns-in_ok-number-in-follow-3-clause-call
returns-in_ok-number-in-follow-3-clause-call c =
    let word : c.args.word.now ≡ codes "follow" = text_from_reads _ _ (search rules) (search rules) in
    search (rules, word)
