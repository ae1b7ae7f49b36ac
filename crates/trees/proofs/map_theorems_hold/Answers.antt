use Rattle.trees.proofs.ListLaws.{list_laws}
use Rattle.trees.proofs.Maps.{put_sets, drop_removes, tree_answers}
use Rattle.trees.proofs.map_theorems_hold.Goals as goal

pub returns : goal.returns
returns g c = record { put = put_sets _; drop = drop_removes _; answers = tree_answers _; lists = list_laws _ }
