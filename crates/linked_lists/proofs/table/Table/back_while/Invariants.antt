use Rattle.std.proofs.Common.{ℕ, ◌<◌, true, vec_items}
use Rattle.linked_lists.specs.Chain.{prev_at, listed}
use Rattle.linked_lists.specs.Passing.{Carries, Led}
use Rattle.order.specs.Items.{position}
use Rattle.linked_lists.proofs.table.Table.back_while.Given as goal

abbrev pub invariant-loop-y : goal.invariant-loop-y
invariant-loop-y g l =
    (l.x < l.self.count)
    × ((k : ℕ) × Led (prev_at (vec_items l.self.rows)) (Carries (λ t. goal.F-post g l.passes t true) (vec_items l.self.rows)) k l.a l.x)

abbrev pub decreases-loop-y : goal.decreases-loop-y
decreases-loop-y g l = position (listed (vec_items l.self.rows) l.self.count) l.x
