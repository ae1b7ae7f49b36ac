use Rattle.slices.proofs.threads_hold.Goals as goal
use Rattle.slices.proofs.Threading.{owns_serves, threads_stay}

pub returns : goal.returns
returns c = record { owns = owns_serves; stay = threads_stay }
