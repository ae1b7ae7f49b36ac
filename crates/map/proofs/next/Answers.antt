use Rattle.std.proofs.Common.{rules}
use Rattle.memory.proofs.Rows.{step_ok, step_exit, run_ok}
use Rattle.map.specs.Next.{next_pair_of}
use Rattle.map.proofs.Lookups.{found}
use Rattle.map.proofs.next.Goals as goal

pub returns-in_err-value-clause-runs : goal.returns-in_err-value-clause-runs
unfolding next_pair_of
returns-in_err-value-clause-runs g c = record {
  runs = λ m h. step_ok _ (c.in_ok-load.ensures.calls.does m h) (λ m1 p1. run_ok _ (c.in_ok-reg.ensures.runs m1 p1) (λ m2 p2. found _ _ _ c.in-Some.is (step_ok _ (c.in_ok-above.ensures.does m2 p2) (λ m3 p3. step_exit _ c.from_residual-in_err-value.ensures.1 (c.in_err-value.ensures.does m3 p3)))));
  same = search rules;
}
