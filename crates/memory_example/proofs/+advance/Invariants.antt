use Rattle.memory_example.proofs.+advance.Given as goal

abbrev pub decreases-advance : goal.decreases-advance
decreases-advance g l = l.steps
