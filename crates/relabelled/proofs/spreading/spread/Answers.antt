use Rattle.std.proofs.Common.{refl, ap, ◌∙◌, inl, inr, arith}
use Rattle.linked_lists.proofs.Open.{opened}
use Rattle.linked_lists.proofs.Progress.{progress_start, progress_known, progress_code, progress_items, progress_labels}
use Rattle.linked_lists.proofs.Replies.{all_in_rows}
use Rattle.linked_lists.specs.Chain.{listed, labelled}
use Rattle.relabelled.proofs.spreading.spread.Goals as goal

pub loop-j-init : goal.loop-j-init
loop-j-init c = (progress_start _ _ c.args.range c.requires, refl, refl)

pub retag-requires : goal.retag-requires
retag-requires c = let k = progress_known _ _ _ _ _ _ _ _ _ c.loop-j.invariant.0 c.in-Some.is in let e = c.loop-j.invariant.1 in omega arith

pub at-next-requires : goal.at-next-requires
at-next-requires c =
    let k = progress_known _ _ _ _ _ _ _ _ _ c.loop-j.invariant.0 c.in-Some.is in
    let e = c.loop-j.invariant.1 in
    let n = c.retag.ensures.count in
    omega arith

pub loop-j-preserved : goal.loop-j-preserved
loop-j-preserved c =
    let rows = rw (c.from.ensures, c.from-in-loop-j.ensures, c.from-in-loop-j-2.ensures) at c.retag.ensures.rows in (
      progress_code _ _ _ _ _ _ _ c.in-Some.x c.loop-j.next c.loop-j.invariant.0 c.in-Some.is c.loop-j-test.true (all_in_rows (opened c.args.table.now.sound))
          _ _ rows c.at-next.ensures.row.next,
      c.retag.ensures.count ∙ c.loop-j.invariant.1,
      c.retag.ensures.limit ∙ c.loop-j.invariant.2,
    )

pub returns-after-loop-j-clause-items : goal.returns-after-loop-j-clause-items
returns-after-loop-j-clause-items c = ap (listed _) c.loop-j.invariant.1 ∙ progress_items _ _ _ _ _ _ _ _ c.loop-j.invariant.0

pub returns-after-loop-j-clause-labels : goal.returns-after-loop-j-clause-labels
returns-after-loop-j-clause-labels c =
    ap (labelled _) c.loop-j.invariant.1 ∙ progress_labels _ _ _ _ _ _ _ _ c.loop-j.invariant.0 (inl c.loop-j-test.false)

pub returns-in_default-clause-items : goal.returns-in_default-clause-items
returns-in_default-clause-items c = ap (listed _) c.loop-j.invariant.1 ∙ progress_items _ _ _ _ _ _ _ _ c.loop-j.invariant.0

pub returns-in_default-clause-labels : goal.returns-in_default-clause-labels
returns-in_default-clause-labels c =
    ap (labelled _) c.loop-j.invariant.1 ∙ progress_labels _ _ _ _ _ _ _ _ c.loop-j.invariant.0 (inr c.in_default.is)
