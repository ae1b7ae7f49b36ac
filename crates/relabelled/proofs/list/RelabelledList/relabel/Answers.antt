use Rattle.linked_lists.proofs.Relabel.{code_spreadable, code_spread}
use Rattle.relabelled.proofs.Opened.{rises}
use Rattle.relabelled.proofs.list.RelabelledList.relabel.Goals as goal

pub spread-requires : goal.spread-requires
spread-requires c =
    code_spreadable (rises c.args.self.now) c.args.a c.requires.known c.requires.room _ (c.at-label.ensures.row.tag 0)
    c.roomy-range.result c.roomy-range.ensures _ _ c.link-n.ensures.rows c.link-n.ensures.count

pub invariant_of-self : goal.invariant_of-self
invariant_of-self c =
    let q = code_spread (rises c.args.self.now) c.args.a c.requires.known c.requires.room _ (c.at-label.ensures.row.tag 0)
    c.roomy-range.result c.roomy-range.ensures _ _ c.link-n.ensures.rows c.link-n.ensures.count
    _ _ c.spread.ensures.count c.spread.ensures.items c.spread.ensures.labels in
    record { rising = ∣ q.rising ∣₁ }

pub returns-clause-items : goal.returns-clause-items
returns-clause-items c =
    let q = code_spread (rises c.args.self.now) c.args.a c.requires.known c.requires.room _ (c.at-label.ensures.row.tag 0)
    c.roomy-range.result c.roomy-range.ensures _ _ c.link-n.ensures.rows c.link-n.ensures.count
    _ _ c.spread.ensures.count c.spread.ensures.items c.spread.ensures.labels in
    q.items

pub returns-clause-labels : goal.returns-clause-labels
returns-clause-labels c =
    let q = code_spread (rises c.args.self.now) c.args.a c.requires.known c.requires.room _ (c.at-label.ensures.row.tag 0)
    c.roomy-range.result c.roomy-range.ensures _ _ c.link-n.ensures.rows c.link-n.ensures.count
    _ _ c.spread.ensures.count c.spread.ensures.items c.spread.ensures.labels in
    q.labels
