use Rattle.std.proofs.Common.{Bool, false, Result, ap, ◌∙◌}
use Rattle.std.specs.Result.{result_unwrap_or}
use Rattle.refusals.specs.declared.kinds.OrderRefusal.{OrderRefusal}
use Rattle.chain_rows.proofs.Orders.{answered}
use Rattle.chains.proofs.asking.earlier.Goals as goal

pub returns : goal.returns
returns g c = λ a b.
    c.unwrap_or.ensures
    ∙ ap (λ (r : Result Bool OrderRefusal). result_unwrap_or r false)
    (c.before-2.ensures ∙ answered (g.O.VersionOrder.items c.args.order.now) (g.met.O.VersionOrder.once c.args.order.now) (g.met.O.VersionOrder.numbered c.args.order.now) _ _ a b)
