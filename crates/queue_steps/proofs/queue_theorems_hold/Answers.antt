use Rattle.queue_steps.proofs.Calls.{push_joins, pop_takes, top_answers}
use Rattle.queue_steps.proofs.Releases.{release_merges}
use Rattle.queue_steps.proofs.queue_theorems_hold.Goals as goal

pub returns : goal.returns
returns c = record { push = push_joins; pop = pop_takes; top = top_answers; release = release_merges }
