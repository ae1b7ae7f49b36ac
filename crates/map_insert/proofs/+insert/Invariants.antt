use Rattle.std.proofs.Common.{◌-◌}
use Rattle.map_insert.proofs.+insert.Given as goal

abbrev pub decreases-insert : goal.decreases-insert
decreases-insert g l = 25 - l.d
