use Rattle.std.proofs.Common.{rules}
use Rattle.linked_lists.proofs.Fresh.{made_items, made_tag, made_rising, made_entries}
use Rattle.linked_lists.proofs.Open.{opened}
use Rattle.relabelled.proofs.list.RelabelledList.make.Goals as goal

pub invariant_of-result : goal.invariant_of-result
invariant_of-result c =
    let s = opened c.fresh.result.sound in
    record { rising = ∣ made_rising 0 _ s c.fresh.ensures.rows c.fresh.ensures.count _ (made_tag 0 _ s c.fresh.ensures.rows c.fresh.ensures.count 0) ∣₁ }

pub returns-in-Ok : goal.returns-in-Ok
returns-in-Ok c =
    let s = opened c.fresh.result.sound in
    (search rules, made_items 0 _ s c.fresh.ensures.rows c.fresh.ensures.count, made_entries _ s c.fresh.ensures.rows c.fresh.ensures.count, c.fresh.ensures.limit)
