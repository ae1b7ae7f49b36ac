use Rattle.memory.proofs.Laws.{keeps_rest, works_alone, sealed_stays, stays_sealed, sealed_runs, open_copies, enter_keeps, there_and_back}
use Rattle.memory.proofs.theorems.versions_hold.Goals as goal

pub returns : goal.returns
returns c = record { rest = keeps_rest; alone = works_alone; stays = sealed_stays; on = stays_sealed; runs = sealed_runs; copies = open_copies; keeps = enter_keeps; back = there_and_back }
