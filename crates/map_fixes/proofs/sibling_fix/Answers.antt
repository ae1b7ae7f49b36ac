use Rattle.std.proofs.Common.{◌∙◌, rules}
use Rattle.map_steps.specs.Remove.{sibling_fix_of}
use Rattle.map_fixes.specs.Fixes.{colours_of, lift_of}
use Rattle.memory.proofs.Rows.{step_ok}
use Rattle.memory.specs.Steps.{follow_of}
use Rattle.tree_calls.proofs.Chains.{side_at, via_call}
use Rattle.map_fixes.proofs.sibling_fix.Goals as goal

pub returns : goal.returns
unfolding sibling_fix_of colours_of lift_of
returns g c = record {
  runs = λ m h. step_ok _ (via_call (λ k. follow_of c.args.d k 26) (c.from-far.ensures ∙ side_at _) c.in_ok-follow.ensures.calls.does m h) (λ m1 p1.
      step_ok _ (via_call (λ k. follow_of 26 k 27) (c.from-far.ensures ∙ side_at _) c.in_ok-follow-2.ensures.calls.does m1 p1) (λ m2 p2.
      step_ok _ (via_call (λ k. follow_of 26 k 28) (c.from-near.ensures ∙ side_at _) c.in_ok-follow-3.ensures.calls.does m2 p2) (λ m3 p3.
      c.fix_by_colours.ensures.runs m3 p3)));
  same = search rules;
}
