use Rattle.grouping.proofs.Replies.{label_ok}
use Rattle.relabelled.specs.Held.{items_within, entries_long}
use Rattle.two_level.proofs.Opened.{open_list}
use Rattle.two_level.proofs.calls.TwoLevelListLabelled.label.Goals as goal

pub returns : goal.returns
returns c =
    label_ok (open_list c.args.self.now) c.args.a c.in_ok-row.field-0 c.label.result _ c.in_ok-row.ensures.0 c.in_ok-row.ensures.1
    (items_within c.args.self.now.groups) (entries_long c.args.self.now.groups) c.label.ensures
