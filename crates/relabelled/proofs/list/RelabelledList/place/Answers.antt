use Rattle.std.proofs.Common.{arith}
use Rattle.linked_lists.proofs.Relabel.{code_below, near, far_labels}
use Rattle.relabelled.proofs.Opened.{rises}
use Rattle.relabelled.proofs.list.RelabelledList.place.Goals as goal

pub overflow_sub-gap : goal.overflow_sub-gap
overflow_sub-gap c =
    let u = code_below (rises c.args.self.now) c.args.a c.requires.known c.requires.room _ (c.at-label.ensures.row.tag 0) _ c.end_of.ensures in omega arith

pub invariant_of-self : goal.invariant_of-self
invariant_of-self c =
    let q = near (rises c.args.self.now) c.args.a c.requires.known c.requires.room _ (c.at-label.ensures.row.tag 0)
    _ _ _ c.link.ensures.rows c.link.ensures.count c.end_of.ensures c.if-gap-ge2.true in
    record { rising = ∣ q.rising ∣₁ }

pub returns-then-gap-ge2-clause-items : goal.returns-then-gap-ge2-clause-items
returns-then-gap-ge2-clause-items c =
    let q = near (rises c.args.self.now) c.args.a c.requires.known c.requires.room _ (c.at-label.ensures.row.tag 0)
    _ _ _ c.link.ensures.rows c.link.ensures.count c.end_of.ensures c.if-gap-ge2.true in
    q.items

pub returns-then-gap-ge2-clause-labels : goal.returns-then-gap-ge2-clause-labels
returns-then-gap-ge2-clause-labels c =
    let q = near (rises c.args.self.now) c.args.a c.requires.known c.requires.room _ (c.at-label.ensures.row.tag 0)
    _ _ _ c.link.ensures.rows c.link.ensures.count c.end_of.ensures c.if-gap-ge2.true in
    q.labels

pub returns-else-gap-ge2-clause-labels : goal.returns-else-gap-ge2-clause-labels
returns-else-gap-ge2-clause-labels c =
    far_labels (rises c.args.self.now) c.args.a c.requires.known c.requires.room _ (c.at-label.ensures.row.tag 0) _ _ c.end_of.ensures c.if-gap-ge2.false c.relabel.ensures.labels
