use Rattle.std.proofs.Common.{length}
use Rattle.piquegravel.proofs.usage.read_commands.Given as goal

abbrev pub decreases-loop-command : goal.decreases-loop-command
decreases-loop-command l = length l.left
