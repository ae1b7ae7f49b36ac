use Rattle.std.proofs.Common.{◌≡◌, ◌-◌}
use Rattle.labels.specs.Labels.{widen, width}
use Rattle.linked_lists.specs.Chain.{label_at}
use Rattle.relabelled.specs.Meaning.{relabelled_entries}
use Rattle.relabelled.proofs.list.RelabelledList.roomy.Given as goal

abbrev pub invariant-loop-i : goal.invariant-loop-i
invariant-loop-i l =
    width (relabelled_entries l.self) (label_at l.self.table.rows.items l.a) ≡ widen (relabelled_entries l.self) (label_at l.self.table.rows.items l.a) l.i (31 - l.i)
