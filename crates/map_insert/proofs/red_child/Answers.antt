use Rattle.std.proofs.Common.{add-one, suc, refl, ◌∙◌, not, rules}
use Rattle.memory.proofs.Rows.{step_ok, run_ok, run_exit}
use Rattle.tree_calls.proofs.Chains.{on_true, on_false, one_holds, none_holds, via_call, side_at}
use Rattle.memory.specs.Steps.{follow_of}
use Rattle.map_insert.specs.Levels.{red_child_of}
use Rattle.map_insert.proofs.red_child.Goals as goal

pub returns-in_err-inner : goal.returns-in_err-inner
unfolding red_child_of
returns-in_err-inner g c = record {
  runs = λ m h. step_ok _ (via_call (λ n. follow_of (suc c.args.d) n 26) (c.from-outwards.ensures ∙ side_at c.args.right) (via_call (λ n. follow_of n c.from-outwards.result 26) (add-one c.args.d) c.in_ok-follow.ensures.calls.does) m h) (λ m1 p1. step_ok _ (via_call (λ n. follow_of (suc c.args.d) n 27) (c.from-inwards.ensures ∙ side_at (not c.args.right)) (via_call (λ n. follow_of n c.from-inwards.result 27) (add-one c.args.d) c.in_ok-follow-2.ensures.calls.does) m1 p1) (λ m2 p2. run_ok _ (c.in_ok-outer.ensures.runs m2 p2) (λ m3 p3. run_exit _ c.from_residual-in_err-inner.ensures.1 (c.in_err-inner.ensures.runs m3 p3))));
  same = search rules;
}

pub returns-then-inner : goal.returns-then-inner
unfolding red_child_of
returns-then-inner g c = record {
  runs = λ m h. step_ok _ (via_call (λ n. follow_of (suc c.args.d) n 26) (c.from-outwards.ensures ∙ side_at c.args.right) (via_call (λ n. follow_of n c.from-outwards.result 26) (add-one c.args.d) c.in_ok-follow.ensures.calls.does) m h) (λ m1 p1. step_ok _ (via_call (λ n. follow_of (suc c.args.d) n 27) (c.from-inwards.ensures ∙ side_at (not c.args.right)) (via_call (λ n. follow_of n c.from-inwards.result 27) (add-one c.args.d) c.in_ok-follow-2.ensures.calls.does) m1 p1) (λ m2 p2. run_ok _ (c.in_ok-outer.ensures.runs m2 p2) (λ m3 p3. run_ok _ (c.in_ok-inner.ensures.runs m3 p3) (λ m4 p4. on_true _ _ _ (one_holds _ _ c.if-inner.either) (c.red_pair.ensures.runs m4 p4)))));
  same = search rules;
}

pub returns-else-inner : goal.returns-else-inner
unfolding red_child_of
returns-else-inner g c = record {
  runs = λ m h. step_ok _ (via_call (λ n. follow_of (suc c.args.d) n 26) (c.from-outwards.ensures ∙ side_at c.args.right) (via_call (λ n. follow_of n c.from-outwards.result 26) (add-one c.args.d) c.in_ok-follow.ensures.calls.does) m h) (λ m1 p1. step_ok _ (via_call (λ n. follow_of (suc c.args.d) n 27) (c.from-inwards.ensures ∙ side_at (not c.args.right)) (via_call (λ n. follow_of n c.from-inwards.result 27) (add-one c.args.d) c.in_ok-follow-2.ensures.calls.does) m1 p1) (λ m2 p2. run_ok _ (c.in_ok-outer.ensures.runs m2 p2) (λ m3 p3. run_ok _ (c.in_ok-inner.ensures.runs m3 p3) (λ m4 p4. on_false _ _ _ (none_holds _ _ c.if-inner.false) (record { to = (refl, p4) })))));
  same = search rules;
}
