use Rattle.order.specs.Items.{position}
use Rattle.std.proofs.Common.{◌≡◌, length}
use Rattle.fields.specs.Fields.{field_number, redirect}
use Rattle.chain_rows.proofs.Renaming.{Done}
use Rattle.chains.proofs.walking.rename_entries.Given as goal

abbrev pub invariant-loop-step : goal.invariant-loop-step
invariant-loop-step g l =
    Done (position (g.O.VersionOrder.items l.order)) (redirect l.names.old l.names.new) (field_number l.field) (position (g.O.VersionOrder.items l.order) l.x)
    l.fn.rows l.rows l.fn.from.head l.fn.from.len l.at l._step
    × (length l.rows ≡ length l.fn.rows)
