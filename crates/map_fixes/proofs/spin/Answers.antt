use Rattle.std.proofs.Common.{◌∙◌, rules}
use Rattle.tree_calls.proofs.Chains.{colour_at, via_run}
use Rattle.map_steps.specs.Remove.{spin_of}
use Rattle.memory.proofs.Rows.{run_ok, run_exit}
use Rattle.stored.specs.Writes.{renumber_of}
use Rattle.map_fixes.proofs.spin.Goals as goal

pub returns-in_err-set_mark-3 : goal.returns-in_err-set_mark-3
unfolding spin_of
returns-in_err-set_mark-3 g c = record {
  runs = λ m h. run_ok _ (c.in_ok-set_mark.ensures.runs m h) (λ m1 p1.
      run_ok _ (c.in_ok-set_mark-2.ensures.runs m1 p1) (λ m2 p2.
      run_ok _ (c.in_ok-rotate.ensures.runs m2 p2) (λ m3 p3.
      run_exit _ c.from_residual-in_err-set_mark-3.ensures.1 (via_run (λ k. renumber_of 1 c.args.d k) (c.from.ensures ∙ colour_at _) (c.in_err-set_mark-3.ensures.runs m3 p3)))));
  same = search rules;
}
