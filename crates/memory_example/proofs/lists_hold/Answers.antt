use Rattle.memory_example.proofs.Lists.{push_lists, walk_answers}
use Rattle.memory_example.proofs.lists_hold.Goals as goal

pub returns : goal.returns
returns c = record { push = push_lists; walk = walk_answers }
