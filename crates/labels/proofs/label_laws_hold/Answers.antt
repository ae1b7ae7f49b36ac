use Rattle.labels.proofs.Rise.{labels_rise}
use Rattle.labels.proofs.Widening.{always_room, smallest_range}
use Rattle.labels.proofs.label_laws_hold.Goals as goal

pub returns : goal.returns
returns c = record { room = always_room; smallest = smallest_range; rising = labels_rise }
