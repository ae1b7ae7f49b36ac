use Rattle.std.proofs.Common.{rules}
use Rattle.copies.proofs.Owning.{owned}
use Rattle.copies.proofs.table.CopyTable.owns.Goals as goal

pub returns : goal.returns
returns g c = λ P a.
    owned (g.O.VersionOrder.items c.args.order.now) c.args.self.now c.args.i c.args.v c.row.result c.is_none_or.result _ P a c.row.ensures c.is_none_or.ensures
    (λ n l lv lo p. search rules)
