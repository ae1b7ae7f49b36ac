use Rattle.states.proofs.changes_keep.Goals as goal
use Rattle.states.proofs.Relinking.{relink_sound, crowded_means, set_number-sound}

pub returns : goal.returns
returns c = record { link = relink_sound; crowded = crowded_means; number = set_number-sound }
