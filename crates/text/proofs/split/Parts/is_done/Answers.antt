use Rattle.std.proofs.Common.{rules}
use Rattle.text.proofs.Cuts.{none_left}
use Rattle.text.proofs.split.Parts.is_done.Goals as goal

pub returns : goal.returns
returns c = search (rules, none_left)
