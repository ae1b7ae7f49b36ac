use Rattle.std.proofs.Common.{◌+◌, ◌-◌, refl, add-one, rules}
use Rattle.tree_calls.proofs.Chains.{via_run, on_true, on_false}
use Rattle.memory.specs.Steps.{nil_of}
use Rattle.map_steps.specs.Insert.{red_of}
use Rattle.map_steps.specs.Remove.{first_of, swap_out_of}
use Rattle.memory.proofs.Rows.{run_ok, run_exit}
use Rattle.map_remove.proofs.swap_out.Goals as goal

pub returns-then-d-ge40 : goal.returns-then-d-ge40
unfolding swap_out_of red_of nil_of
returns-then-d-ge40 g c = search rules

pub returns-in_err-short : goal.returns-in_err-short
unfolding swap_out_of
returns-in_err-short g c = record {
  runs = λ m h. run_ok _ (c.in_ok-red.ensures.runs m h) (λ m1 p1.
      run_exit _ c.from_residual-in_err-short.ensures.1 (via_run (λ k. first_of (25 - (c.args.d + 1)) k) (add-one c.args.d) (c.in_err-short.ensures.runs m1 p1)));
  same = search rules;
}

pub returns-in_err-replace : goal.returns-in_err-replace
unfolding swap_out_of
returns-in_err-replace g c = record {
  runs = λ m h. run_ok _ (c.in_ok-red.ensures.runs m h) (λ m1 p1.
      run_ok _ (via_run (λ k. first_of (25 - (c.args.d + 1)) k) (add-one c.args.d) (c.in_ok-short.ensures.runs m1 p1)) (λ m2 p2.
      run_exit _ c.from_residual-in_err-replace.ensures.1 (c.in_err-replace.ensures.runs m2 p2)));
  same = search rules;
}

pub returns-then-short : goal.returns-then-short
unfolding swap_out_of
returns-then-short g c = record {
  runs = λ m h. run_ok _ (c.in_ok-red.ensures.runs m h) (λ m1 p1.
      run_ok _ (via_run (λ k. first_of (25 - (c.args.d + 1)) k) (add-one c.args.d) (c.in_ok-short.ensures.runs m1 p1)) (λ m2 p2.
      run_ok _ (c.in_ok-replace.ensures.runs m2 p2) (λ m3 p3.
      on_true _ _ _ c.if-short.true (c.short_fix.ensures.runs m3 p3))));
  same = search rules;
}

pub returns : goal.returns
unfolding swap_out_of
returns g c = record {
  runs = λ m h. run_ok _ (c.in_ok-red.ensures.runs m h) (λ m1 p1.
      run_ok _ (via_run (λ k. first_of (25 - (c.args.d + 1)) k) (add-one c.args.d) (c.in_ok-short.ensures.runs m1 p1)) (λ m2 p2.
      run_ok _ (c.in_ok-replace.ensures.runs m2 p2) (λ m3 p3.
      on_false _ _ _ c.if-short.false (record { to = (refl, p3) }))));
  same = search rules;
}
