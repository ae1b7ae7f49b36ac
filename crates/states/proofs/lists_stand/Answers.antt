use Rattle.states.proofs.lists_stand.Goals as goal
use Rattle.states.proofs.Places.{positions_stand}
use Rattle.states.proofs.Listing.{behind_listed, open_listed, third_link}

pub returns : goal.returns
returns c = record { positions = positions_stand; behind = behind_listed; opening = open_listed; third = third_link }
