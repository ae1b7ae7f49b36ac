use Rattle.std.proofs.Common.{rules}
use Rattle.memory.specs.Steps.{follow_of}
use Rattle.map_steps.specs.Remove.{regraft_of}
use Rattle.map_fixes.proofs.regraft.Goals as goal

pub returns-then-d-ge40 : goal.returns-then-d-ge40
unfolding regraft_of follow_of
returns-then-d-ge40 g c = search rules
