use Rattle.std.proofs.Common.{rules}
use Rattle.memory.proofs.Numbers.{le_true}
use Rattle.memory.proofs.Rows.{step_ok, run_ok, run_exit}
use Rattle.tree_calls.proofs.Chains.{on_true, on_false}
use Rattle.queue_calls.proofs.Ranks.{le_false, hang_next}
use Rattle.queue_calls.proofs.levels.hang.Goals as goal

pub returns-in_err-right : goal.returns-in_err-right
returns-in_err-right g c = record {
  runs = λ m h. rw (hang_next c.args.d m)
      (step_ok _ (c.in_ok-follow.ensures.calls.does m h) (λ m1 p1.
      run_ok _ (c.in_ok-left.ensures.runs m1 p1) (λ m2 p2.
      run_exit _ c.from_residual-in_err-right.ensures.1 (c.in_err-right.ensures.runs m2 p2))));
  same = search rules;
}

pub returns-in_err-relink : goal.returns-in_err-relink
returns-in_err-relink g c = record {
  runs = λ m h. rw (hang_next c.args.d m)
      (step_ok _ (c.in_ok-follow.ensures.calls.does m h) (λ m1 p1.
      run_ok _ (c.in_ok-left.ensures.runs m1 p1) (λ m2 p2.
      run_ok _ (c.in_ok-right.ensures.runs m2 p2) (λ m3 p3.
      on_true _ _ _ (le_true _ _ c.if-right-left.true)
      (run_exit _ c.from_residual-in_err-relink.ensures.1 (c.in_err-relink.ensures.runs m3 p3))))));
  same = search rules;
}

pub returns-then-right-left : goal.returns-then-right-left
returns-then-right-left g c = record {
  runs = λ m h. rw (hang_next c.args.d m)
      (step_ok _ (c.in_ok-follow.ensures.calls.does m h) (λ m1 p1.
      run_ok _ (c.in_ok-left.ensures.runs m1 p1) (λ m2 p2.
      run_ok _ (c.in_ok-right.ensures.runs m2 p2) (λ m3 p3.
      on_true _ _ _ (le_true _ _ c.if-right-left.true)
      (run_ok _ (c.in_ok-relink.ensures.runs m3 p3) (λ m4 p4. c.ranked.ensures.runs m4 p4))))));
  same = search rules;
}

pub returns-in_err-relink-2 : goal.returns-in_err-relink-2
returns-in_err-relink-2 g c = record {
  runs = λ m h. rw (hang_next c.args.d m)
      (step_ok _ (c.in_ok-follow.ensures.calls.does m h) (λ m1 p1.
      run_ok _ (c.in_ok-left.ensures.runs m1 p1) (λ m2 p2.
      run_ok _ (c.in_ok-right.ensures.runs m2 p2) (λ m3 p3.
      on_false _ _ _ (le_false _ _ c.if-right-left.false)
      (run_exit _ c.from_residual-in_err-relink-2.ensures.1 (c.in_err-relink-2.ensures.runs m3 p3))))));
  same = search rules;
}

pub returns-in_err-relink-3 : goal.returns-in_err-relink-3
returns-in_err-relink-3 g c = record {
  runs = λ m h. rw (hang_next c.args.d m)
      (step_ok _ (c.in_ok-follow.ensures.calls.does m h) (λ m1 p1.
      run_ok _ (c.in_ok-left.ensures.runs m1 p1) (λ m2 p2.
      run_ok _ (c.in_ok-right.ensures.runs m2 p2) (λ m3 p3.
      on_false _ _ _ (le_false _ _ c.if-right-left.false)
      (run_ok _ (c.in_ok-relink-2.ensures.runs m3 p3) (λ m4 p4.
      run_exit _ c.from_residual-in_err-relink-3.ensures.1 (c.in_err-relink-3.ensures.runs m4 p4)))))));
  same = search rules;
}

pub returns : goal.returns
returns g c = record {
  runs = λ m h. rw (hang_next c.args.d m)
      (step_ok _ (c.in_ok-follow.ensures.calls.does m h) (λ m1 p1.
      run_ok _ (c.in_ok-left.ensures.runs m1 p1) (λ m2 p2.
      run_ok _ (c.in_ok-right.ensures.runs m2 p2) (λ m3 p3.
      on_false _ _ _ (le_false _ _ c.if-right-left.false)
      (run_ok _ (c.in_ok-relink-2.ensures.runs m3 p3) (λ m4 p4.
      run_ok _ (c.in_ok-relink-3.ensures.runs m4 p4) (λ m5 p5. c.ranked-2.ensures.runs m5 p5)))))));
  same = search rules;
}
