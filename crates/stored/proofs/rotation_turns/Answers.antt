use Rattle.stored.proofs.Turns.{turn}
use Rattle.stored.proofs.rotation_turns.Goals as goal

pub returns : goal.returns
returns g c = turn
