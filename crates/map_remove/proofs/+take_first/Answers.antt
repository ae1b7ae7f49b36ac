use Rattle.std.proofs.Common.{arith, rules}
use Rattle.map_remove.proofs.Levels.{came_by, first_step}
use Rattle.memory.proofs.Rows.{step_ok, run_ok, run_exit}
use Rattle.tree_calls.proofs.Chains.{on_false}
use Rattle.map_remove.proofs.+take_first.Goals as goal

pub returns-in_err-follow : goal.returns-in_err-follow
returns-in_err-follow g t c = record { runs = λ m h. came_by (first_step c.args.d m (omega arith)) (search rules); same = search rules }

pub returns-in_err-is_nil : goal.returns-in_err-is_nil
returns-in_err-is_nil g t c = record { runs = λ m h. came_by (first_step c.args.d m (omega arith)) (search rules); same = search rules }

pub returns-then-branch : goal.returns-then-branch
returns-then-branch g t c = record { runs = λ m h. came_by (first_step c.args.d m (omega arith)) (search rules); same = search rules }

pub returns-in_err-short : goal.returns-in_err-short
returns-in_err-short g t c = record {
  runs = λ m h. came_by (first_step c.args.d m (omega arith))
      (step_ok _ (c.in_ok-follow.ensures.calls.does m h) (λ m1 p1.
      step_ok _ (c.in_ok-is_nil.ensures.does m1 p1) (λ m2 p2.
      on_false _ _ _ c.if-branch.false (run_exit _ c.from_residual-in_err-short.ensures.1 (c.in_err-short.ensures.runs m2 p2)))));
  same = search rules;
}

pub returns : goal.returns
returns g t c = record {
  runs = λ m h. came_by (first_step c.args.d m (omega arith))
      (step_ok _ (c.in_ok-follow.ensures.calls.does m h) (λ m1 p1.
      step_ok _ (c.in_ok-is_nil.ensures.does m1 p1) (λ m2 p2.
      on_false _ _ _ c.if-branch.false (run_ok _ (c.in_ok-short.ensures.runs m2 p2) (λ m3 p3.
      c.step_up.ensures.runs m3 p3)))));
  same = search rules;
}
