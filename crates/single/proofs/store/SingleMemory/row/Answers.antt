use Rattle.std.proofs.Common.{sym}
use Rattle.single.proofs.FirstReads.{node_in}
use Rattle.single.proofs.store.SingleMemory.row.Goals as goal

pub index-requires : goal.index-requires
index-requires c = node_in c.args.self.now c.args.reg _ (sym c.in_ok-k.ensures)
