use Rattle.std.proofs.Common.{Ok, ap, ◌∙◌}
use Rattle.linked_lists.proofs.Decisions.{granted}
use Rattle.relabelled.proofs.Opened.{rises}
use Rattle.relabelled.proofs.list.RelabelledList.after.Goals as goal

pub returns-clause-answer : goal.returns-clause-answer
returns-clause-answer c = ap Ok c.place.ensures.number ∙ (granted _ _ _ c.args.a (rises c.args.self.now).table.links.long c.in_ok-check_after.ensures).answer
