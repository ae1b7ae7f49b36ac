use Rattle.std.proofs.Common.{inr, rules}
use Rattle.grouping.proofs.Replies.{before_same, before_apart}
use Rattle.linked_lists.proofs.Replies.{before_unknown}
use Rattle.relabelled.specs.Held.{items_distinct, items_within}
use Rattle.two_level.proofs.Opened.{open_list}
use Rattle.two_level.proofs.calls.TwoLevelListVersionOrder.before.Goals as goal

pub returns-in_err-y : goal.returns-in_err-y
returns-in_err-y c = let u = before_unknown (open_list c.args.self.now).list.table c.args.a c.args.b (inr c.in_err-y.ensures.0) in search rules

pub returns-then-x-y : goal.returns-then-x-y
returns-then-x-y c =
    before_same (open_list c.args.self.now) c.args.a c.args.b c.in_ok-x.field-0 c.in_ok-y.field-0
    c.in_ok-x.ensures.0 c.in_ok-y.ensures.0 c.in_ok-x.ensures.1 c.in_ok-y.ensures.1 c.if-x-y.true

pub returns : goal.returns
returns c =
    before_apart (open_list c.args.self.now) c.args.a c.args.b c.in_ok-x.field-0 c.in_ok-y.field-0 c.before-2.result
    c.in_ok-x.ensures.0 c.in_ok-y.ensures.0 c.in_ok-x.ensures.1 c.in_ok-y.ensures.1 c.if-x-y.false
    (items_distinct c.args.self.now.groups) (items_within c.args.self.now.groups) c.before-2.ensures
