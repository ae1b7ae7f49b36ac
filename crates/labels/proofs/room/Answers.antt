use Rattle.std.proofs.Common.{ap, ◌∙◌}
use Rattle.std.specs.Option.{unwrap_or}
use Rattle.labels.proofs.Capacities.{room_is}
use Rattle.labels.proofs.room.Goals as goal

pub returns : goal.returns
returns c =
    c.unwrap_or.ensures ∙ (ap (λ o. unwrap_or o 0) c.copied.ensures ∙ room_is c.args.i c.get.result c.get.ensures.lookup.0 c.get.ensures.lookup.1)
