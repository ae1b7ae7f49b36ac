use Rattle.std.proofs.Common.{◌-◌}
use Rattle.map_remove.proofs.+take_first.Given as goal

abbrev pub decreases-take_first : goal.decreases-take_first
decreases-take_first g l = 25 - l.d
