use Rattle.std.proofs.Common.{◌∙◌, arith}
use Rattle.grouping.proofs.Loops.{numbering_in, numbering_more}
use Rattle.two_level.proofs.runs.regroup.Goals as goal

pub at-row-requires : goal.at-row-requires
at-row-requires c =
    let i = numbering_in _ _ _ _ _ _ _ _ c.loop-rank.invariant.0 c.in-Some.x c.loop-rank-test.true c.in-Some.is in
    let e = c.loop-rank.invariant.1 in
    omega arith

pub retag-requires : goal.retag-requires
retag-requires c =
    let i = numbering_in _ _ _ _ _ _ _ _ c.loop-rank.invariant.0 c.in-Some.x c.loop-rank-test.true c.in-Some.is in
    let e = c.loop-rank.invariant.1 in
    omega arith

pub loop-rank-preserved : goal.loop-rank-preserved
loop-rank-preserved c = (
  numbering_more _ _ _ _ _ _ _ _ c.loop-rank.invariant.0 c.in-Some.x c.loop-rank-test.true c.in-Some.is c.at-row.result c.home_of-group.result _
      c.at-row.ensures.row c.home_of-group.ensures c.retag.ensures.rows,
  c.retag.ensures.count ∙ c.loop-rank.invariant.1,
  c.retag.ensures.limit ∙ c.loop-rank.invariant.2,
)
