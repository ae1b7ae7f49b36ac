use Rattle.std.proofs.Common.{◌^◌, ◌<◌}
use Rattle.text.proofs.Reading.{Reading}
use Rattle.text.proofs.numbers.U64Number.read.Given as goal

abbrev pub invariant-loop-b : goal.invariant-loop-b
invariant-loop-b l = Reading l.text l.b-index l.n × (l.n < 2 ^ 64)
