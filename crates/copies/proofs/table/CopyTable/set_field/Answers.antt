use Rattle.std.proofs.Common.{length}
use Rattle.order.specs.Items.{position}
use Rattle.fields.specs.Fields.{field_number}
use Rattle.copies.proofs.Setting.{first_changes, put_changes}
use Rattle.copies.proofs.table.CopyTable.set_field.Goals as goal

pub returns-then-row-u : goal.returns-then-row-u
returns-then-row-u g c =
    first_changes (position (g.O.VersionOrder.items c.args.order.now)) (length (g.O.VersionOrder.items c.args.order.now))
    c.args.u c.args.behind c.args.i (field_number c.args.field) c.args.w c.args.self.now c.hold.new.self c.set_row.new.self c.row-row.result c.with_first.result
    c.hold.ensures c.row-row.ensures c.if-row-u.true c.with_first.ensures c.set_row.ensures

pub returns : goal.returns
returns g c =
    put_changes (g.O.VersionOrder.items c.args.order.now) (g.met.O.VersionOrder.numbered c.args.order.now)
    c.args.u c.args.behind c.args.i (field_number c.args.field) c.args.w c.args.self.now c.hold.new.self c.put.new.self c.row-row.result
    c.hold.ensures c.row-row.ensures c.if-row-u.false c.put.ensures
