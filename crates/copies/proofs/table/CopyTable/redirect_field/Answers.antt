use Rattle.std.proofs.Common.{length}
use Rattle.order.specs.Items.{position}
use Rattle.fields.specs.Fields.{field_number}
use Rattle.copies.proofs.Redirecting.{redirects_idle, redirects_put}
use Rattle.copies.proofs.table.CopyTable.redirect_field.Goals as goal

pub returns-else-names : goal.returns-else-names
returns-else-names g c =
    redirects_idle (position (g.O.VersionOrder.items c.args.order.now)) (length (g.O.VersionOrder.items c.args.order.now))
    c.args.names.old c.args.names.new c.args.x c.args.i (field_number c.args.field) c.args.self.now c.rename.new.self c.value_at-value.result c.names.result
    c.value_at-value.ensures c.names.ensures c.rename.ensures c.if-names.false

pub returns-then-names : goal.returns-then-names
returns-then-names g c =
    redirects_put (position (g.O.VersionOrder.items c.args.order.now)) (length (g.O.VersionOrder.items c.args.order.now))
    c.args.names.old c.args.names.new c.args.x c.args.i (field_number c.args.field) c.args.self.now c.rename.new.self c.value_at-value.result c.names.result
    c.value_at-value.ensures c.names.ensures c.rename.ensures c.if-names.true c.redirected.result c.redirected.ensures c.put.new.self c.put.ensures
