use Rattle.std.proofs.Common.{◌∙◌, rules}
use Rattle.tree_calls.proofs.Chains.{via_call, side_at}
use Rattle.map_remove.specs.Taking.{unlink_of}
use Rattle.map_steps.specs.Remove.{take_of}
use Rattle.memory.proofs.Rows.{step_ok, run_ok, run_exit}
use Rattle.memory.specs.Steps.{follow_of}
use Rattle.map_remove.proofs.take.Goals as goal

pub returns-in_err-unlink : goal.returns-in_err-unlink
unfolding take_of unlink_of
returns-in_err-unlink g c = record {
  runs = λ m h. step_ok _ (c.in_ok-copy.ensures.calls.does m h) (λ m1 p1.
      run_ok _ (c.in_ok-red.ensures.runs m1 p1) (λ m2 p2.
      step_ok _ (via_call (λ k. follow_of 36 k c.args.d) (c.from.ensures ∙ side_at _) c.in_ok-follow.ensures.calls.does m2 p2) (λ m3 p3.
      run_exit _ c.from_residual-in_err-unlink.ensures.1 (c.in_err-unlink.ensures.runs m3 p3))));
  same = search rules;
}

pub returns : goal.returns
unfolding take_of unlink_of
returns g c = record {
  runs = λ m h. step_ok _ (c.in_ok-copy.ensures.calls.does m h) (λ m1 p1.
      run_ok _ (c.in_ok-red.ensures.runs m1 p1) (λ m2 p2.
      step_ok _ (via_call (λ k. follow_of 36 k c.args.d) (c.from.ensures ∙ side_at _) c.in_ok-follow.ensures.calls.does m2 p2) (λ m3 p3.
      run_ok _ (c.in_ok-unlink.ensures.runs m3 p3) (λ m4 p4.
      c.spliced.ensures.runs m4 p4))));
  same = search rules;
}
