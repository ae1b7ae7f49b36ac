use Rattle.std.proofs.Common.{rules, tests}
use Rattle.text.proofs.Telling.{found}
use Rattle.text.proofs.split.Parts.line.Goals as goal

pub returns : goal.returns
returns c =
    let first = found _ _ (λ x b q k. search (rules, tests)) c.args.self.now c.find.new.self c.find.result c.find.ensures.ran in
    search (rules, first)
