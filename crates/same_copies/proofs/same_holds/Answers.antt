use Rattle.same_copies.proofs.same_holds.Goals as goal
use Rattle.same_copies.proofs.Agreeing.{same_sound, same_threaded}
use Rattle.same_copies.proofs.Standing.{same_kept, same_stands}

pub returns : goal.returns
returns c = record { sound = same_sound; threaded = same_threaded; kept = same_kept; stands = same_stands }
