use Rattle.std.proofs.Common.{rules}
use Rattle.places.proofs.Orders.{left_some, left_none}
use Rattle.places.proofs.goes_left.Goals as goal

pub returns : goal.returns
returns g c = let a = c.is_some_and.ensures in let k = c.key.ensures in search (rules, left_some g.K.Key.first, left_none g.K.Key.first g.met.K.Key.irreflexive)
