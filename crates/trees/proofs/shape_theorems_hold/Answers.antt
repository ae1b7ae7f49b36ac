use Rattle.trees.proofs.Heights.{low_map, low_rank}
use Rattle.trees.proofs.Rules.{rules_are_balanced}
use Rattle.trees.proofs.shape_theorems_hold.Goals as goal

pub returns : goal.returns
returns g c = record { rules = rules_are_balanced _; map = low_map _; heap = low_rank _ }
