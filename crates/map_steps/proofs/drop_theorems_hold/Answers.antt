use Rattle.map_steps.proofs.Drops.{drop_ends}
use Rattle.map_steps.proofs.drop_theorems_hold.Goals as goal

pub returns : goal.returns
returns c = drop_ends
