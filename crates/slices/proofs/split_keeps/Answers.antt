use Rattle.slices.proofs.split_keeps.Goals as goal
use Rattle.slices.proofs.Splitting.{split_sound}
use Rattle.slices.proofs.Partnering.{split_idle}
use Rattle.slices.proofs.Serving.{serving_tells}

pub returns : goal.returns
returns c = record { sound = split_sound; partners = split_idle; serving = serving_tells }
