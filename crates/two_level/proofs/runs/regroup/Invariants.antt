use Rattle.std.proofs.Common.{◌≡◌, Some, vec_items}
use Rattle.grouping.proofs.Loops.{Numbering}
use Rattle.grouping.specs.Groups.{regrouped}
use Rattle.linked_lists.specs.Chain.{walk, next_at}
use Rattle.two_level.proofs.runs.regroup.Given as goal

abbrev pub invariant-loop-rank : goal.invariant-loop-rank
invariant-loop-rank l =
    Numbering (vec_items l.initial.table.rows) (vec_items l.table.rows) l.initial.table.count l.size l.fresh l.rank l.next
    (regrouped (vec_items l.initial.table.rows) (walk (next_at (vec_items l.initial.table.rows)) l.size (Some l.first)) 0 l.fresh)
    × (l.table.count ≡ l.initial.table.count)
    × (l.table.limit ≡ l.initial.table.limit)
