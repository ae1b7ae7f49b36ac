use Rattle.std.proofs.Common.{vec_items, sym, ◌∙◌, subst, arith}
use Rattle.std.proofs.lemmas.Bool.{lt-ltb, cond-true}
use Rattle.labels.proofs.Widening.{width_start, widen_more, widen_stop}
use Rattle.linked_lists.specs.Chain.{label_at}
use Rattle.linked_lists.specs.Ranges.{Around}
use Rattle.relabelled.specs.Meaning.{relabelled_entries}
use Rattle.relabelled.proofs.list.RelabelledList.roomy.Goals as goal

pub loop-i-init : goal.loop-i-init
loop-i-init c = width_start _ _

pub returns-then-room-from : goal.returns-then-room-from
returns-then-room-from c =
    let f = c.range_at-range.ensures.full in
    let r = c.room.ensures ∙ cond-true _ _ _ (lt-ltb c.loop-i.i 32 (omega arith)) in
    let u = c.from.ensures in
    let k = c.if-room-from.true in
    subst (λ w. Around (relabelled_entries c.args.self.now) (label_at (vec_items c.args.self.now.table.rows) c.args.a) w c.range_at-range.result)
    (sym (c.loop-i.invariant ∙ widen_stop (relabelled_entries c.args.self.now) (label_at (vec_items c.args.self.now.table.rows) c.args.a) c.loop-i.i _ (omega arith))) c.range_at-range.ensures

pub loop-i-preserved : goal.loop-i-preserved
loop-i-preserved c =
    let f = c.range_at-range.ensures.full in
    let r = c.room.ensures ∙ cond-true _ _ _ (lt-ltb c.loop-i.i 32 (omega arith)) in
    let u = c.from.ensures in
    let k = c.if-room-from.false in
    c.loop-i.invariant ∙ widen_more _ _ c.loop-i.i (omega arith) (omega arith)
