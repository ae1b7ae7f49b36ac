use Rattle.map_steps.proofs.Finds.{get_ends}
use Rattle.map_steps.proofs.Nexts.{next_ends}
use Rattle.map_steps.proofs.read_theorems_hold.Goals as goal

pub returns : goal.returns
returns c = record { get = get_ends; next = next_ends }
