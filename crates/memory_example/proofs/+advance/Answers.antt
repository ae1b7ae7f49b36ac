use Rattle.std.proofs.Common.{refl, arith, rules}
use Rattle.memory.proofs.Rows.{step_ok, step_exit}
use Rattle.memory_example.proofs.Lists.{advance_none, advance_more}
use Rattle.memory_example.proofs.+advance.Goals as goal

pub returns-then-steps-eq0-clause-runs : goal.returns-then-steps-eq0-clause-runs
returns-then-steps-eq0-clause-runs g t c = record { runs = λ m h. rw (advance_none c.args.steps m (omega arith)) (record { to = (refl, h) }); same = search rules }

pub returns-in_err-follow-clause-runs : goal.returns-in_err-follow-clause-runs
returns-in_err-follow-clause-runs g t c = record {
  runs = λ m h. rw (advance_more c.args.steps m (omega arith)) (step_exit _ c.from_residual.ensures.1 (c.in_err-follow.ensures.calls.does m h));
  same = search rules;
}

pub returns-clause-runs : goal.returns-clause-runs
returns-clause-runs g t c = record {
  runs = λ m h. rw (advance_more c.args.steps m (omega arith)) (step_ok _ (c.in_ok-follow.ensures.calls.does m h) (λ m1 h1. c.advance.ensures.runs.runs m1 h1));
  same = search rules;
}
