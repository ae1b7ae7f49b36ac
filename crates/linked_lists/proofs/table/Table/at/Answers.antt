use Rattle.linked_lists.proofs.Linking.{next_fits, prev_fits}
use Rattle.linked_lists.proofs.Open.{opened}
use Rattle.linked_lists.proofs.Replies.{in_rows}
use Rattle.linked_lists.proofs.Rows.{row_read}
use Rattle.linked_lists.proofs.table.Table.at.Goals as goal

pub returns-clause-row : goal.returns-clause-row
returns-clause-row g c = row_read _ _ _ (in_rows (opened c.args.self.now.sound) _ c.requires) c.index.ensures

pub returns-clause-next : goal.returns-clause-next
returns-clause-next g c = next_fits _ _ _ (opened c.args.self.now.sound).links c.requires

pub returns-clause-prev : goal.returns-clause-prev
returns-clause-prev g c = prev_fits _ _ _ (opened c.args.self.now.sound).links c.requires
