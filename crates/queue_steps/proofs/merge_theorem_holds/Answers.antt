use Rattle.queue_steps.proofs.Merges.{merge_ends}
use Rattle.queue_steps.proofs.merge_theorem_holds.Goals as goal

pub returns : goal.returns
returns c = merge_ends
