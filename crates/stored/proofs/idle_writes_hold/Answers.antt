use Rattle.stored.proofs.Idle.{idle_writes}
use Rattle.stored.proofs.idle_writes_hold.Goals as goal

pub returns : goal.returns
returns c = idle_writes
