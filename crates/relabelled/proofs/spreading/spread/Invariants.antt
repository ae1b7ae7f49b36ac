use Rattle.std.proofs.Common.{◌≡◌, vec_items}
use Rattle.linked_lists.proofs.Progress.{Progress}
use Rattle.relabelled.proofs.spreading.spread.Given as goal

abbrev pub invariant-loop-j : goal.invariant-loop-j
invariant-loop-j l =
    Progress (vec_items l.initial.table.rows) (vec_items l.table.rows) l.initial.table.count l.range.base l.range.size l.range.crowd l.j l.next
    × (l.table.count ≡ l.initial.table.count)
    × (l.table.limit ≡ l.initial.table.limit)
