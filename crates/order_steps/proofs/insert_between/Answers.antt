use Rattle.std.proofs.Common.{ap, ◌∙◌}
use Rattle.order.specs.Items.{items_after}
use Rattle.order_steps.proofs.Steps.{between}
use Rattle.order_steps.proofs.insert_between.Goals as goal

pub returns : goal.returns
returns g c =
    between (g.O.VersionOrder.items c.args.order.now) c.args.a _ (g.O.VersionOrder.limit c.args.order.now) c.in_ok-n.n c.in_ok-next.next
    c.successor.result c.after.result (g.met.O.VersionOrder.numbered c.args.order.now) c.successor.ensures c.in_ok-next.was c.after.ensures.answer
    c.in_ok-n.was (c.after.ensures.items ∙ ap (λ r. items_after r (g.O.VersionOrder.items c.args.order.now) c.args.a) c.in_ok-n.was)
