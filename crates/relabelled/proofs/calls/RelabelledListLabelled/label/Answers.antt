use Rattle.linked_lists.proofs.Replies.{label_ok}
use Rattle.relabelled.proofs.Opened.{rises}
use Rattle.relabelled.proofs.calls.RelabelledListLabelled.label.Goals as goal

pub returns : goal.returns
returns c = label_ok (rises c.args.self.now) c.args.a c.in_ok-row.field-0 c.in_ok-row.ensures.0 c.in_ok-row.ensures.1
