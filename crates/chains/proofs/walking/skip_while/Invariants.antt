use Rattle.std.proofs.Common.{◌≡◌, ◌-◌, true}
use Rattle.chain_rows.proofs.Skipping.{Passing}
use Rattle.chains.proofs.walking.skip_while.Given as goal

abbrev pub invariant-loop-step : goal.invariant-loop-step
invariant-loop-step g l = Passing (λ v. goal.F-post g l.passes v true) l.rows l.fn.from l.rest × (l.rest.len ≡ l.fn.from.len - l._step)
