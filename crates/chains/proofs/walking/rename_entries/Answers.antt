use Rattle.std.proofs.Common.{rules, length-set, ◌∙◌, arith}
use Rattle.chain_rows.proofs.Renaming.{done_more, done_version, done_all, turn_hit, turn_late, turn_other}
use Rattle.chains.proofs.walking.rename_entries.Goals as goal
use Rattle.chains.proofs.walking.rename_entries.Goals.{then-eq+then-not-earlier, else-eq, else-eq-via-then-eq+else-not-earlier, else-eq-via-else-eq}

pub loop-step-preserved : goal.loop-step-preserved
loop-step-preserved g c = (
  done_more _ _ c.args.used _ _ _ _ _ _ _ _ _ _ c.if-eq.row c.loop-step.invariant.0 c.requires.chained c.requires.taken c.loop-step-test.true
      (elim c.if-eq.branch [
        | then-eq+then-not-earlier w ↦ turn_hit _ _ c.args.field _ _ _ w.redirected-row.result (search rules)
            (w.if-not-earlier.ensures (done_version _ _ c.args.used _ _ _ _ _ _ _ _ _ _ c.loop-step.invariant.0 c.requires.chained c.requires.taken c.loop-step-test.true) c.requires.known)
            w.redirected-row.ensures w.row-is
        | else-eq w ↦
            elim w.else-eq.branch [
              | else-eq-via-then-eq+else-not-earlier u ↦ turn_late _ _ c.args.field _ _ _
                  (u.if-not-earlier.ensures (done_version _ _ c.args.used _ _ _ _ _ _ _ _ _ _ c.loop-step.invariant.0 c.requires.chained c.requires.taken c.loop-step-test.true) c.requires.known)
                  w.row-is
              | else-eq-via-else-eq u ↦ turn_other _ _ c.args.field _ _ _ (search rules) w.row-is
            ]
      ]),
  length-set _ _ _ ∙ c.loop-step.invariant.1,
)

pub returns-clause-renames : goal.returns-clause-renames
returns-clause-renames g c = done_all _ _ _ _ _ _ _ _ _ _ c.loop-step.invariant.0 (omega arith)
