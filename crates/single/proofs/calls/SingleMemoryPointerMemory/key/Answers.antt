use Rattle.std.proofs.Common.{sym}
use Rattle.memory.specs.Steps.{key_of}
use Rattle.memory.proofs.Accepted.{key_done}
use Rattle.single.proofs.FirstReads.{refuses, no_node, row_read}
use Rattle.single.proofs.calls.SingleMemoryPointerMemory.key.Goals as goal

pub returns-in_err-row-clause-does : goal.returns-in_err-row-clause-does
unfolding key_of
returns-in_err-row-clause-does g c m h = refuses c.from_residual.ensures.1 (no_node c.args.self.now m c.args.reg _ _ h c.in_err-row.ensures)

pub returns-clause-does : goal.returns-clause-does
returns-clause-does g c m h =
    let R = row_read c.args.self.now m c.args.reg _ _ h c.in_ok-row.ensures.2 c.in_ok-row.ensures.1 in
    rw (key_done c.args.reg _ R.0 m R.1) (record { is = (sym R.2.key, h) })
