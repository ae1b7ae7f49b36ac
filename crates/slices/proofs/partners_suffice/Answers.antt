use Rattle.slices.proofs.partners_suffice.Goals as goal
use Rattle.slices.proofs.Redirecting.{split_redirects, redirect_twice, partners_found}

pub returns : goal.returns
returns c = record { redirects = split_redirects; twice = redirect_twice; found = partners_found }
