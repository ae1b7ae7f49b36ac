use Rattle.same_copies.proofs.visits_split.Goals as goal
use Rattle.same_copies.proofs.Visiting.{visits_split_lem}

pub returns : goal.returns
returns c = visits_split_lem
