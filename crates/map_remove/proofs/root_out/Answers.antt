use Rattle.std.proofs.Common.{add-one, rules}
use Rattle.tree_calls.proofs.Chains.{via_call, on_true, on_false}
use Rattle.map_steps.specs.Remove.{root_out_of}
use Rattle.memory.proofs.Rows.{step_ok, step_exit}
use Rattle.memory.specs.Steps.{follow_of, nil_of}
use Rattle.map_remove.proofs.root_out.Goals as goal

pub returns-then-d-ge40 : goal.returns-then-d-ge40
unfolding root_out_of follow_of
returns-then-d-ge40 g c = search rules

pub returns-in_err-follow-2 : goal.returns-in_err-follow-2
unfolding root_out_of
returns-in_err-follow-2 g c = record {
  runs = λ m h. step_ok _ (via_call (λ k. follow_of c.args.d 1 k) (add-one c.args.d) c.in_ok-follow.ensures.calls.does m h) (λ m1 p1.
      step_ok _ (via_call (λ k. nil_of k) (add-one c.args.d) c.in_ok-is_nil.ensures.does m1 p1) (λ m2 p2.
      on_false _ _ _ c.if-branch.false (step_exit _ c.from_residual-in_err-follow-2.ensures.1 (c.in_err-follow-2.ensures.calls.does m2 p2))));
  same = search rules;
}

pub returns-in_err-is_nil-2 : goal.returns-in_err-is_nil-2
unfolding root_out_of
returns-in_err-is_nil-2 g c = record {
  runs = λ m h. step_ok _ (via_call (λ k. follow_of c.args.d 1 k) (add-one c.args.d) c.in_ok-follow.ensures.calls.does m h) (λ m1 p1.
      step_ok _ (via_call (λ k. nil_of k) (add-one c.args.d) c.in_ok-is_nil.ensures.does m1 p1) (λ m2 p2.
      on_false _ _ _ c.if-branch.false (step_ok _ (c.in_ok-follow-2.ensures.calls.does m2 p2) (λ m3 p3.
      step_exit _ c.from_residual-in_err-is_nil-2.ensures.1 (c.in_err-is_nil-2.ensures.does m3 p3)))));
  same = search rules;
}

pub returns-then-branch-2 : goal.returns-then-branch-2
unfolding root_out_of
returns-then-branch-2 g c = record {
  runs = λ m h. step_ok _ (via_call (λ k. follow_of c.args.d 1 k) (add-one c.args.d) c.in_ok-follow.ensures.calls.does m h) (λ m1 p1.
      step_ok _ (via_call (λ k. nil_of k) (add-one c.args.d) c.in_ok-is_nil.ensures.does m1 p1) (λ m2 p2.
      on_false _ _ _ c.if-branch.false (step_ok _ (c.in_ok-follow-2.ensures.calls.does m2 p2) (λ m3 p3.
      step_ok _ (c.in_ok-is_nil-2.ensures.does m3 p3) (λ m4 p4.
      on_true _ _ _ c.if-branch-2.true (c.take-then-branch-2.ensures.runs m4 p4))))));
  same = search rules;
}

pub returns : goal.returns
unfolding root_out_of
returns g c = record {
  runs = λ m h. step_ok _ (via_call (λ k. follow_of c.args.d 1 k) (add-one c.args.d) c.in_ok-follow.ensures.calls.does m h) (λ m1 p1.
      step_ok _ (via_call (λ k. nil_of k) (add-one c.args.d) c.in_ok-is_nil.ensures.does m1 p1) (λ m2 p2.
      on_false _ _ _ c.if-branch.false (step_ok _ (c.in_ok-follow-2.ensures.calls.does m2 p2) (λ m3 p3.
      step_ok _ (c.in_ok-is_nil-2.ensures.does m3 p3) (λ m4 p4.
      on_false _ _ _ c.if-branch-2.false (c.swap_out.ensures.runs m4 p4))))));
  same = search rules;
}
