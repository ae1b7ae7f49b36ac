use Rattle.std.proofs.Common.{length, vec_items}
use Rattle.text.specs.Left.{left}
use Rattle.text.proofs.Sofar.{Sofar}
use Rattle.text.proofs.split.Parts.numbers.Given as goal

abbrev pub invariant-loop-part : goal.invariant-loop-part
invariant-loop-part l = Sofar (left l.initial.self) (left l.part-iterator) (vec_items l.numbers)

abbrev pub decreases-loop-part : goal.decreases-loop-part
decreases-loop-part l = length (left l.part-iterator)
