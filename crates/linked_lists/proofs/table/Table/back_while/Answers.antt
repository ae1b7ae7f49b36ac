use Rattle.std.proofs.Common.{◌≡◌, ℕ, Some, None, Option, subst, sym, refl, ◌∙◌, arith}
use Rattle.linked_lists.proofs.Insert.{same_some}
use Rattle.linked_lists.proofs.Linking.{fits_at}
use Rattle.linked_lists.proofs.Open.{opened}
use Rattle.linked_lists.proofs.Passing.{carries, led_more, before_less}
use Rattle.linked_lists.specs.Passing.{Carries}
use Rattle.linked_lists.proofs.table.Table.back_while.Goals as goal
use Rattle.linked_lists.proofs.table.Table.back_while.Goals.{in-Some+then-not-passes, in_default}

pub loop-y-init : goal.loop-y-init
loop-y-init g c = (c.requires.known, (0, refl))

pub loop-y-preserved : goal.loop-y-preserved
loop-y-preserved g c =
    let i = c.loop-y.invariant in
    let p = sym c.at.ensures.row.prev ∙ c.in-Some.is in
    (fits_at _ _ _ c.at.ensures.prev p, led_more _ _ _ _ _ i.1 p (carries _ _ _ _ c.at-in-Some.ensures.row c.if-not-passes.ensures))

pub loop-y-smaller : goal.loop-y-smaller
loop-y-smaller g c = before_less (opened c.args.self.now.sound) _ _ c.loop-y.invariant.0 (sym c.at.ensures.row.prev ∙ c.in-Some.is)

pub returns-clause-back : goal.returns-clause-back
returns-clause-back g c =
    let i = c.loop-y.invariant.1 in
    let q = c.at.ensures.row.prev in
    record {
      steps = i.0;
      led = i.1;
      stops = elim c.match-at.branch [
        | in-Some+then-not-passes w ↦ λ y e. subst (Carries _ _) (same_some _ y (sym w.in-Some.is ∙ (q ∙ e))) (carries _ _ _ _ w.at-in-Some.ensures.row w.if-not-passes.ensures)
        | in_default w ↦ λ y e. let z : ◌≡◌ {A = Option ℕ} None (Some y) = sym w.in_default.is ∙ (q ∙ e) in let u : ◌≡◌ {A = ℕ} 0 1 = cc in absurd (omega arith)
      ];
    }
