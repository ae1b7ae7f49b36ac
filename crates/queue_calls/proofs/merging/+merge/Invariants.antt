use Rattle.std.proofs.Common.{◌-◌}
use Rattle.queue_calls.proofs.merging.+merge.Given as goal

abbrev pub decreases-merge : goal.decreases-merge
decreases-merge g l = 25 - l.d
