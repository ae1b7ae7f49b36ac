use Rattle.std.proofs.Common.{arith, rules}
use Rattle.labels.proofs.Widening.{shifted_top}
use Rattle.linked_lists.proofs.Walks.{label_top, count_few}
use Rattle.relabelled.proofs.Opened.{chain, rises}
use Rattle.relabelled.proofs.list.RelabelledList.range_at.Goals as goal

pub count_in-crowd-requires-clause-top : goal.count_in-crowd-requires-clause-top
count_in-crowd-requires-clause-top c =
    let t = label_top _ _ _ (chain c.args.self.now) c.requires.known in
    let l = c.at-label.ensures.row.tag 0 in
    shifted_top c.args.i c.at-label.result.tag c.requires.at (omega arith)

pub overflow_add-crowd : goal.overflow_add-crowd
overflow_add-crowd c =
    let k = count_few _ _ _ _ _ (chain c.args.self.now) c.count_in-crowd.ensures in
    let s = (rises c.args.self.now).table in
    let f = s.few in
    let m = s.small in
    search rules
