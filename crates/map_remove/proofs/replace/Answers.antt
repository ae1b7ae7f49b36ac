use Rattle.std.proofs.Common.{rules}
use Rattle.memory.specs.Steps.{link_of}
use Rattle.stored.specs.Writes.{blank_of}
use Rattle.map_steps.specs.Remove.{replace_of}
use Rattle.map_remove.proofs.replace.Goals as goal

pub returns-then-d-ge40 : goal.returns-then-d-ge40
unfolding replace_of blank_of link_of
returns-then-d-ge40 g c = search rules
