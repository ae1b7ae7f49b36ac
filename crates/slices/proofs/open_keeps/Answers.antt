use Rattle.slices.proofs.open_keeps.Goals as goal
use Rattle.slices.proofs.Opening.{open_sound}

pub returns : goal.returns
returns c = open_sound
