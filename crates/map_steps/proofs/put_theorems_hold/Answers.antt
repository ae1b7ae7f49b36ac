use Rattle.map_steps.proofs.Adds.{add_ends}
use Rattle.map_steps.proofs.Finds.{set_ends}
use Rattle.map_steps.proofs.put_theorems_hold.Goals as goal

pub returns : goal.returns
returns c = record { new = add_ends; old = set_ends }
