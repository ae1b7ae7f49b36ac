use Rattle.slices.proofs.make_keeps.Goals as goal
use Rattle.slices.proofs.Bearing.{make_sound}
use Rattle.slices.proofs.Bearing.{one_serves}
use Rattle.slices.proofs.Bearing.{births_stay}

pub returns : goal.returns
returns c = record { sound = make_sound; one = one_serves; births = births_stay }
