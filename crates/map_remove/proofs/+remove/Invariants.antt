use Rattle.std.proofs.Common.{◌-◌}
use Rattle.map_remove.proofs.+remove.Given as goal

abbrev pub decreases-remove : goal.decreases-remove
decreases-remove g l = 25 - l.d
