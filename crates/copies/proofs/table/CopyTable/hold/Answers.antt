use Rattle.std.proofs.Common.{length}
use Rattle.order.specs.Items.{position}
use Rattle.fields.specs.Fields.{field_number}
use Rattle.copies.proofs.Holding.{holding}
use Rattle.copies.proofs.table.CopyTable.hold.Goals as goal

pub returns-in-Some : goal.returns-in-Some
returns-in-Some g c =
    rw c.in-Some.is
    (holding (position (g.O.VersionOrder.items c.args.order.now)) (length (g.O.VersionOrder.items c.args.order.now))
    c.args.u c.in-Some.s c.args.i (field_number c.args.field) c.args.self.now c.keep.new.self c.value_at-old.result c.value_at-old.ensures c.keep.ensures)
