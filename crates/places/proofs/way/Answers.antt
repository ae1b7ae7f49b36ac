use Rattle.std.proofs.Common.{sym, ◌∙◌, rules}
use Rattle.places.proofs.Orders.{way_none, way_left, way_right, way_here}
use Rattle.places.proofs.way.Goals as goal

pub returns-in_err-here : goal.returns-in_err-here
returns-in_err-here g c = c.from_residual.ensures ∙ way_none g.K.Key.first g.met.K.Key.irreflexive _ c.args.key c.args.p (search rules)

pub returns-then-goes_first : goal.returns-then-goes_first
returns-then-goes_first g c = way_left g.K.Key.first _ c.args.key _ c.args.p (search rules) (sym c.goes_first.ensures ∙ c.if-goes_first.true)

pub returns-then-goes_first-2 : goal.returns-then-goes_first-2
returns-then-goes_first-2 g c = way_right g.K.Key.first _ c.args.key _ c.args.p (search rules) (sym c.goes_first.ensures ∙ c.if-goes_first.false) (sym c.goes_first-else-goes_first.ensures ∙ c.if-goes_first-2.true)

pub returns-else-goes_first-2 : goal.returns-else-goes_first-2
returns-else-goes_first-2 g c = way_here g.K.Key.first _ c.args.key _ c.args.p (search rules) (sym c.goes_first.ensures ∙ c.if-goes_first.false) (sym c.goes_first-else-goes_first.ensures ∙ c.if-goes_first-2.false)
