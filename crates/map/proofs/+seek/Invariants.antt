use Rattle.std.proofs.Common.{◌-◌}
use Rattle.map.proofs.+seek.Given as goal

abbrev pub decreases-seek : goal.decreases-seek
decreases-seek g l = 25 - l.d
