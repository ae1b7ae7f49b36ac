use Rattle.std.proofs.Common.{◌≡◌, ℕ, length, arith, subst}
use Rattle.order.specs.Items.{position}
use Rattle.copies.specs.Views.{RedirectsAll}
use Rattle.copies.proofs.Redirecting.{last_naming, redirects_none, redirects_turn}
use Rattle.copies.proofs.table.CopyTable.redirect_from.Goals as goal

pub loop-field-init : goal.loop-field-init
loop-field-init g c = redirects_none (position (g.O.VersionOrder.items c.args.order.now)) (length (g.O.VersionOrder.items c.args.order.now)) c.args.names.old c.args.names.new c.args.x c.args.i c.args.self.now

pub loop-field-preserved : goal.loop-field-preserved
loop-field-preserved g c =
    redirects_turn (position (g.O.VersionOrder.items c.args.order.now)) (length (g.O.VersionOrder.items c.args.order.now)) c.args.names.old c.args.names.new c.args.x c.args.i
    c.loop-field.field-index _ c.args.self.now c.loop-field.self c.redirect_field.new.self c.loop-field-test.true c.loop-field.invariant c.redirect_field.ensures

pub returns : goal.returns
returns g c =
    let end : c.loop-field.field-index ≡ 5 = omega arith in
    subst (λ (k : ℕ). RedirectsAll (position (g.O.VersionOrder.items c.args.order.now)) (length (g.O.VersionOrder.items c.args.order.now)) c.args.names.old c.args.names.new c.args.x c.args.i
    (last_naming k) c.args.self.now c.loop-field.self) end c.loop-field.invariant
