use Rattle.trees.proofs.Heaps.{merge_joins, push_adds, pop_takes}
use Rattle.trees.proofs.heap_theorems_hold.Goals as goal

pub returns : goal.returns
returns g c = record { merge = merge_joins _; push = push_adds _; pop = pop_takes _ }
