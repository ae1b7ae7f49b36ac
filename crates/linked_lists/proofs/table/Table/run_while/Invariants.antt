use Rattle.std.proofs.Common.{Some, length, true, vec_items}
use Rattle.linked_lists.proofs.Passing.{Ahead}
use Rattle.linked_lists.specs.Chain.{next_at, walk}
use Rattle.linked_lists.specs.Passing.{Carries, Passed}
use Rattle.linked_lists.proofs.table.Table.run_while.Given as goal

abbrev pub invariant-loop-next : goal.invariant-loop-next
invariant-loop-next g l =
    Passed (next_at (vec_items l.self.rows)) (Carries (λ t. goal.F-post g l.passes t true) (vec_items l.self.rows)) l.size (Some l.first) l.next
    × Ahead (next_at (vec_items l.self.rows)) l.self.count l.size l.next

abbrev pub decreases-loop-next : goal.decreases-loop-next
decreases-loop-next g l = length (walk (next_at (vec_items l.self.rows)) l.self.count l.next)
