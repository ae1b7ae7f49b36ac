use Rattle.grouping.proofs.Laws.{groups_flat, groups_small}
use Rattle.grouping.proofs.grouping_laws_hold.Goals as goal

pub returns : goal.returns
returns c = record { list = groups_flat; small = groups_small }
