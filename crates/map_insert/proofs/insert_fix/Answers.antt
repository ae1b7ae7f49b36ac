use Rattle.std.proofs.Common.{add-one, refl, rules}
use Rattle.memory.proofs.Rows.{run_ok, run_exit}
use Rattle.tree_calls.proofs.Chains.{on_true, on_false, via_run}
use Rattle.map_steps.specs.Insert.{red_of, insert_fix_of}
use Rattle.map_insert.specs.Levels.{red_child_of}
use Rattle.map_insert.proofs.insert_fix.Goals as goal

pub returns-in_err-is_red-2 : goal.returns-in_err-is_red-2
unfolding insert_fix_of red_child_of
returns-in_err-is_red-2 g c = record {
  runs = λ m h. run_ok _ (c.in_ok-is_red.ensures.runs m h) (λ m1 p1. on_false _ _ _ c.if-branch.false (run_exit _ c.from_residual-in_err-is_red-2.ensures.1 (via_run red_of (add-one c.args.d) (c.in_err-is_red-2.ensures.runs m1 p1))));
  same = search rules;
}

pub returns-then-branch-2 : goal.returns-then-branch-2
unfolding insert_fix_of red_child_of
returns-then-branch-2 g c = record {
  runs = λ m h. run_ok _ (c.in_ok-is_red.ensures.runs m h) (λ m1 p1. on_false _ _ _ c.if-branch.false (run_ok _ (via_run red_of (add-one c.args.d) (c.in_ok-is_red-2.ensures.runs m1 p1)) (λ m2 p2. on_true _ _ _ c.if-branch-2.true (c.red_child.ensures.runs m2 p2))));
  same = search rules;
}

pub returns : goal.returns
unfolding insert_fix_of red_child_of
returns g c = record {
  runs = λ m h. run_ok _ (c.in_ok-is_red.ensures.runs m h) (λ m1 p1. on_false _ _ _ c.if-branch.false (run_ok _ (via_run red_of (add-one c.args.d) (c.in_ok-is_red-2.ensures.runs m1 p1)) (λ m2 p2. on_false _ _ _ c.if-branch-2.false (record { to = (refl, p2) }))));
  same = search rules;
}
