use Rattle.map_fixes.specs.Fixes.{colours_of}
use Rattle.memory.proofs.Rows.{run_ok, run_exit}
use Rattle.tree_calls.proofs.Chains.{on_true, on_false, one_holds, none_holds}
use Rattle.map_fixes.proofs.fix_by_colours.Goals as goal
use Rattle.std.proofs.Common.{rules}

pub returns-in_err-near : goal.returns-in_err-near
unfolding colours_of
returns-in_err-near g c = record {
  runs = λ m h. run_ok _ (c.in_ok-top.ensures.runs m h) (λ m1 p1.
      run_ok _ (c.in_ok-far.ensures.runs m1 p1) (λ m2 p2.
      run_exit _ c.from_residual-in_err-near.ensures.1 (c.in_err-near.ensures.runs m2 p2)));
  same = search rules;
}

pub returns-then-near : goal.returns-then-near
unfolding colours_of
returns-then-near g c = record {
  runs = λ m h. run_ok _ (c.in_ok-top.ensures.runs m h) (λ m1 p1.
      run_ok _ (c.in_ok-far.ensures.runs m1 p1) (λ m2 p2.
      run_ok _ (c.in_ok-near.ensures.runs m2 p2) (λ m3 p3.
      on_true _ _ _ (one_holds _ _ c.if-near.either) (c.lift_sibling.ensures.runs m3 p3))));
  same = search rules;
}

pub returns-else-near : goal.returns-else-near
unfolding colours_of
returns-else-near g c = record {
  runs = λ m h. run_ok _ (c.in_ok-top.ensures.runs m h) (λ m1 p1.
      run_ok _ (c.in_ok-far.ensures.runs m1 p1) (λ m2 p2.
      run_ok _ (c.in_ok-near.ensures.runs m2 p2) (λ m3 p3.
      on_false _ _ _ (none_holds _ _ c.if-near.false) (c.pass_up.ensures.runs m3 p3))));
  same = search rules;
}
