use Rattle.queue_registers.proofs.Rows.{nil_stays}
use Rattle.queue_registers.proofs.registers_hold.Goals as goal

pub returns : goal.returns
returns c = nil_stays
