use Rattle.std.proofs.Common.{◌<◌, arith}
use Rattle.chain_rows.proofs.Skipping.{passing_more}
use Rattle.chains.proofs.walking.skip_while.Goals as goal

pub loop-step-preserved : goal.loop-step-preserved
loop-step-preserved g c =
    let some : 0 < c.loop-step.rest.len = omega arith in
    (passing_more _ _ _ _ c.loop-step.invariant.0 c.requires.inside _ some c.if-not-passes.ensures, omega arith)
