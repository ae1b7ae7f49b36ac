use Rattle.states.proofs.states_stand.Goals as goal
use Rattle.states.proofs.Meaning.{state_closed, split_means, open_means, make_means, relink_means, set_number-means, split_register}

pub returns : goal.returns
returns c = record { closed = state_closed; split = split_means; opening = open_means; making = make_means; link = relink_means; number = set_number-means; register = split_register }
