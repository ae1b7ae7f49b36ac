use Rattle.std.proofs.Common.{◌≡◌, ℕ, Some, None, Option, subst, sym, refl, ◌∙◌, arith}
use Rattle.linked_lists.proofs.Insert.{same_some}
use Rattle.linked_lists.proofs.Open.{opened}
use Rattle.linked_lists.proofs.Passing.{ahead_start, ahead_in, ahead_room, ahead_more, ahead_less, carries, passed_more, count_fits}
use Rattle.linked_lists.specs.Passing.{Carries}
use Rattle.linked_lists.proofs.table.Table.run_while.Goals as goal
use Rattle.linked_lists.proofs.table.Table.run_while.Goals.{in-Some+then-not-passes, in_default}

pub loop-next-init : goal.loop-next-init
loop-next-init g c = (refl, ahead_start (opened c.args.self.now.sound) _ c.requires.known)

pub at-row-requires : goal.at-row-requires
at-row-requires g c = ahead_in _ _ _ _ c.loop-next.invariant.1 _ c.in-Some.is

pub overflow_add-size : goal.overflow_add-size
overflow_add-size g c =
    let r = ahead_room _ _ _ _ c.loop-next.invariant.1 _ c.in-Some.is in
    let f = count_fits (opened c.args.self.now.sound) in
    omega arith

pub loop-next-preserved : goal.loop-next-preserved
loop-next-preserved g c =
    let i = c.loop-next.invariant in
    let n = c.at-row.ensures.row.next in
    rw n (passed_more _ _ _ _ _ _ i.0 c.in-Some.is (carries _ _ _ _ c.at-row.ensures.row c.if-not-passes.ensures), ahead_more _ _ _ _ i.1 _ c.in-Some.is)

pub loop-next-smaller : goal.loop-next-smaller
loop-next-smaller g c =
    let n = c.at-row.ensures.row.next in
    rw n (ahead_less _ _ _ _ c.loop-next.invariant.1 _ c.in-Some.is)

pub returns : goal.returns
returns g c = record {
  end = c.loop-next.next;
  passed = c.loop-next.invariant.0;
  stops = elim c.match-next.branch [
    | in-Some+then-not-passes w ↦ λ x e. subst (Carries _ _) (same_some _ x (sym w.in-Some.is ∙ e)) (carries _ _ _ _ w.at-row.ensures.row w.if-not-passes.ensures)
    | in_default w ↦ λ x e. let z : ◌≡◌ {A = Option ℕ} None (Some x) = sym w.in_default.is ∙ e in let y : ◌≡◌ {A = ℕ} 0 1 = cc in absurd (omega arith)
  ];
}
