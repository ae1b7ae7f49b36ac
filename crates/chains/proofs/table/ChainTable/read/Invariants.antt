use Rattle.order.specs.Items.{position}
use Rattle.std.proofs.Common.{◌≡◌, ◌<◌}
use Rattle.fields.specs.Fields.{field_number}
use Rattle.entries.specs.Entries.{EachVersion, read}
use Rattle.chains.specs.Views.{entries_of}
use Rattle.chains.specs.Walks.{entries_left}
use Rattle.chains.proofs.table.ChainTable.read.Given as goal

abbrev pub invariant-loop-row : goal.invariant-loop-row
invariant-loop-row g l =
    (read (position (g.O.VersionOrder.items l.order)) (field_number l.field) (position (g.O.VersionOrder.items l.order) l.v) l.value (entries_left l.row-iterator)
    ≡ read (position (g.O.VersionOrder.items l.order)) (field_number l.field) (position (g.O.VersionOrder.items l.order) l.v) l.fn.first (entries_of l.self l.i))
    × EachVersion (λ v. v < l.self.versions) (entries_left l.row-iterator)
