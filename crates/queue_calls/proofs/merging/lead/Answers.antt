use Rattle.std.proofs.Common.{sym, ◌∙◌, rules}
use Rattle.memory.proofs.Rows.{step_ok}
use Rattle.tree_calls.proofs.Chains.{on_true}
use Rattle.queue_calls.specs.Rows.{lead_of}
use Rattle.queue_calls.proofs.merging.lead.Goals as goal

pub returns-then-place_first : goal.returns-then-place_first
unfolding lead_of
returns-then-place_first g c = record {
  runs = λ m h. step_ok _ (c.in_ok-there.ensures.does m h) (λ m1 p1.
      step_ok _ (c.in_ok-here.ensures.does m1 p1) (λ m2 p2.
      on_true _ _ _ (sym c.place_first.ensures ∙ c.if-place_first.true) (c.swap.ensures.runs m2 p2)));
  same = search rules;
}
