use Rattle.space.proofs.space_stands.Goals as goal
use Rattle.space.proofs.Counting.{change_adds, relink_three, split_version_fits, split_adds}

pub returns : goal.returns
returns c = record { change = change_adds; three = relink_three; version = split_version_fits; split = split_adds }
