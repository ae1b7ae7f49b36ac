use Rattle.std.proofs.Common.{inr, rules}
use Rattle.linked_lists.proofs.Replies.{before_ok, before_unknown}
use Rattle.relabelled.proofs.Opened.{rises}
use Rattle.relabelled.proofs.calls.RelabelledListVersionOrder.before.Goals as goal

pub returns-in_err-row-2 : goal.returns-in_err-row-2
returns-in_err-row-2 c = let u = before_unknown (rises c.args.self.now).table c.args.a c.args.b (inr c.in_err-row-2.ensures.0) in search rules

pub returns : goal.returns
returns c =
    before_ok (rises c.args.self.now) c.args.a c.args.b c.in_ok-row.field-0 c.in_ok-row-2.field-0
    c.in_ok-row.ensures.0 c.in_ok-row-2.ensures.0 c.in_ok-row.ensures.1 c.in_ok-row-2.ensures.1
