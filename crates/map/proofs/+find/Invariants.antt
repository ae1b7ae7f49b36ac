use Rattle.std.proofs.Common.{◌-◌}
use Rattle.map.proofs.+find.Given as goal

abbrev pub decreases-find : goal.decreases-find
decreases-find g l = 25 - l.d
