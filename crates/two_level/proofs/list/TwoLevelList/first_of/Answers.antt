use Rattle.std.proofs.Common.{ap, vec_items, arith}
use Rattle.grouping.proofs.Adding.{before_first}
use Rattle.grouping.proofs.Loops.{back_is}
use Rattle.grouping.specs.Groups.{first_seat, group_at}
use Rattle.grouping.specs.declared.item.Seat.{Seat}
use Rattle.relabelled.specs.Held.{items_distinct}
use Rattle.two_level.proofs.Opened.{open_list}
use Rattle.two_level.proofs.list.TwoLevelList.first_of.Goals as goal

pub returns-clause-first : goal.returns-clause-first
returns-clause-first c =
    let ga = ap (λ (t : Seat). t.group) (c.at-group.ensures.row.tag first_seat) in
    back_is (vec_items c.args.self.now.table.rows) _ _ (group_at (vec_items c.args.self.now.table.rows) c.args.a) (λ t p. grind (arith, p, ga)) (λ t p e. grind (arith, p, ga, e)) c.args.a _ c.back_while.ensures.back
    (before_first (open_list c.args.self.now) (items_distinct c.args.self.now.groups) c.args.a c.requires)
