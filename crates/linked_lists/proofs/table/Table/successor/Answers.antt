use Rattle.linked_lists.proofs.Open.{opened}
use Rattle.linked_lists.proofs.Replies.{successor_ok}
use Rattle.linked_lists.proofs.table.Table.successor.Goals as goal

pub returns : goal.returns
returns g c = successor_ok (opened c.args.self.now.sound) c.args.a c.in_ok-row.field-0 c.in_ok-row.ensures.0 c.in_ok-row.ensures.1
