use Rattle.std.proofs.Common.{length}
use Rattle.order.specs.Items.{position}
use Rattle.copies.specs.Views.{RedirectsAll}
use Rattle.copies.proofs.Redirecting.{last_naming}
use Rattle.copies.proofs.table.CopyTable.redirect_from.Given as goal

abbrev pub invariant-loop-field : goal.invariant-loop-field
invariant-loop-field g l =
    RedirectsAll (position (g.O.VersionOrder.items l.order)) (length (g.O.VersionOrder.items l.order)) l.names.old l.names.new l.x l.i (last_naming l.field-index) l.fn.self l.self
