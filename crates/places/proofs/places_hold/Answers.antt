use Rattle.places.proofs.Orders.{places_ordered, places_alike, ways_to}
use Rattle.places.proofs.places_hold.Goals as goal

pub returns : goal.returns
returns g c = record { ordered = places_ordered _; alike = places_alike _; ways = ways_to _ }
