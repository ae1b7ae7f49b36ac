use Rattle.space.proofs.runs_stand.Goals as goal
use Rattle.space.proofs.Running.{step_keeps, run_keeps, kept_spaced, allowed_runs, cascade_ends}

pub returns : goal.returns
returns c = record { step = step_keeps; run = run_keeps; space = kept_spaced; allowed = allowed_runs; cascade = cascade_ends }
