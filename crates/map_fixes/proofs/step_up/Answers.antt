use Rattle.std.proofs.Common.{rules}
use Rattle.memory.specs.Steps.{follow_of}
use Rattle.stored.specs.Writes.{relink_of}
use Rattle.map_steps.specs.Remove.{step_up_of}
use Rattle.map_fixes.proofs.step_up.Goals as goal

pub returns-then-d-ge40 : goal.returns-then-d-ge40
unfolding step_up_of relink_of follow_of
returns-then-d-ge40 g c = search rules
