use Rattle.std.proofs.Common.{sym, ◌∙◌, rules}
use Rattle.grouping.proofs.Fresh.{fresh_sound, fresh_blocks}
use Rattle.linked_lists.proofs.Fresh.{made_items}
use Rattle.linked_lists.proofs.Open.{opened}
use Rattle.two_level.proofs.list.TwoLevelList.make.Goals as goal

pub invariant_of-result : goal.invariant_of-result
invariant_of-result c =
    let s = opened c.fresh.result.sound in
    let h = c.in-Ok.ensures in
    record { sound = ∣ fresh_sound _ s c.fresh.ensures.rows c.fresh.ensures.count _ h.1 _ (h.3 ∙ sym c.fresh.ensures.limit) ∣₁ }

pub returns-in-Ok : goal.returns-in-Ok
returns-in-Ok c =
    let s = opened c.fresh.result.sound in
    let h = c.in-Ok.ensures in
    let q = fresh_sound _ s c.fresh.ensures.rows c.fresh.ensures.count _ h.1 _ (h.3 ∙ sym c.fresh.ensures.limit) in
    (search rules, (made_items _ _ s c.fresh.ensures.rows c.fresh.ensures.count, fresh_blocks _ s c.fresh.ensures.rows c.fresh.ensures.count _ h.1, h.2, c.fresh.ensures.limit, (q.whole, q.blocks)))
