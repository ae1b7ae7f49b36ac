use Rattle.history.specs.Prints.{found_in}
use Rattle.history.specs.Verdicts.{AgreeBelow}
use Rattle.history.proofs.judging.agree.Given as goal

abbrev pub invariant-loop-k : goal.invariant-loop-k
invariant-loop-k l = AgreeBelow (found_in l.history l.file) l.prints l.k
