use Rattle.memory.proofs.Laws.{stays, runs, true_names}
use Rattle.memory.proofs.theorems.soundness_holds.Goals as goal

pub returns : goal.returns
returns c = record { stays = stays; runs = runs; names = true_names }
