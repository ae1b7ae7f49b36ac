use Rattle.std.proofs.Common.{rules, ◌-◌, ◌<◌, arith}
use Rattle.chain_rows.proofs.Orders.{apart}
use Rattle.chain_rows.proofs.Walks.{within_step}
use Rattle.chain_rows.proofs.Finds.{found_before, found_same, passed_last, passed_more}
use Rattle.chains.proofs.walking.find.Goals as goal
use Rattle.chains.proofs.walking.find.Goals.{else-row-v-via-then-row-v+else-eq, else-row-v-via-else-row-v}

pub returns-then-earlier : goal.returns-then-earlier
returns-then-earlier g c =
    let some : 0 < c.args.from.len - c.loop-step._step = omega arith in
    found_before _ _ _ _ _ _ _ _ _ _ c.loop-step.invariant.0 _ some
    (c.if-earlier.ensures c.requires.known (within_step _ _ _ _ some _ c.loop-step.invariant.0.within).0) c.loop-step.prev c.loop-step.invariant.1

pub returns-then-eq : goal.returns-then-eq
returns-then-eq g c = found_same _ _ _ _ _ _ _ _ _ _ c.loop-step.invariant.0 _ (omega arith) c.if-row-v.true (search rules)

pub loop-step-preserved : goal.loop-step-preserved
loop-step-preserved g c =
    let some : 0 < c.args.from.len - c.loop-step._step = omega arith in (
      passed_more _ _ _ _ _ _ _ _ _ _ c.loop-step.invariant.0 _ some (c.if-earlier.ensures c.requires.known (within_step _ _ _ _ some _ c.loop-step.invariant.0.within).0)
          (λ ep ef. elim c.else-row-v.branch [
            | else-row-v-via-then-row-v+else-eq w ↦ search rules
            | else-row-v-via-else-row-v w ↦ w.if-row-v.false (apart (g.O.VersionOrder.items c.args.order.now) (g.met.O.VersionOrder.numbered c.args.order.now) _ c.args.v
                (within_step _ _ _ _ some _ c.loop-step.invariant.0.within).0 c.requires.known ep)
          ]),
      passed_last _ _ _ _ _ _ _ _ _ _ c.loop-step.invariant.0,
    )
