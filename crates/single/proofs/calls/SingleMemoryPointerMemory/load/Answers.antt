use Rattle.single.proofs.Table.{all_set}
use Rattle.single.proofs.Means.{root_below}
use Rattle.single.proofs.calls.SingleMemoryPointerMemory.load.Goals as goal

pub invariant_of-self-clause-held : goal.invariant_of-self-clause-held
invariant_of-self-clause-held g c = let s = c.args.self.now in all_set s.made s.regs c.args.reg _ s.held (root_below s c.args.root)
