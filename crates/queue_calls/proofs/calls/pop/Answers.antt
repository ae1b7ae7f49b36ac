use Rattle.std.proofs.Common.{refl, rules}
use Rattle.memory.proofs.Rows.{step_ok, run_ok, run_exit}
use Rattle.tree_calls.proofs.Chains.{on_false}
use Rattle.queue_steps.specs.Queues.{pop_of}
use Rattle.queue_calls.proofs.calls.pop.Goals as goal

pub returns-in_err-merge : goal.returns-in_err-merge
unfolding pop_of
returns-in_err-merge g c = record {
  runs = λ m h. step_ok _ (c.in_ok-load.ensures.calls.does m h) (λ m1 p1.
      step_ok _ (c.in_ok-is_nil.ensures.does m1 p1) (λ m2 p2.
      on_false _ _ _ c.if-branch.false
      (step_ok _ (c.in_ok-place.ensures.does m2 p2) (λ m3 p3.
      run_ok _ (c.in_ok-part.ensures.runs m3 p3) (λ m4 p4.
      run_exit _ c.from_residual-in_err-merge.ensures.1 (c.in_err-merge.ensures.runs m4 p4))))));
  same = search rules;
}

pub returns-in_err-save : goal.returns-in_err-save
unfolding pop_of
returns-in_err-save g c = record {
  runs = λ m h. step_ok _ (c.in_ok-load.ensures.calls.does m h) (λ m1 p1.
      step_ok _ (c.in_ok-is_nil.ensures.does m1 p1) (λ m2 p2.
      on_false _ _ _ c.if-branch.false
      (step_ok _ (c.in_ok-place.ensures.does m2 p2) (λ m3 p3.
      run_ok _ (c.in_ok-part.ensures.runs m3 p3) (λ m4 p4.
      run_ok _ (c.in_ok-merge.ensures.runs m4 p4) (λ m5 p5.
      run_exit _ c.from_residual-in_err-save.ensures.1 (c.in_err-save.ensures.runs m5 p5)))))));
  same = search rules;
}

pub returns : goal.returns
unfolding pop_of
returns g c = record {
  runs = λ m h. step_ok _ (c.in_ok-load.ensures.calls.does m h) (λ m1 p1.
      step_ok _ (c.in_ok-is_nil.ensures.does m1 p1) (λ m2 p2.
      on_false _ _ _ c.if-branch.false
      (step_ok _ (c.in_ok-place.ensures.does m2 p2) (λ m3 p3.
      run_ok _ (c.in_ok-part.ensures.runs m3 p3) (λ m4 p4.
      run_ok _ (c.in_ok-merge.ensures.runs m4 p4) (λ m5 p5.
      run_ok _ (c.in_ok-save.ensures.runs m5 p5) (λ m6 p6.
      record { to = (refl, p6) })))))));
  same = search rules;
}
