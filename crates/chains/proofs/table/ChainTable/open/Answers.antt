use Rattle.std.proofs.Common.{vec_items}
use Rattle.chains.proofs.Opened.{opened}
use Rattle.chain_rows.proofs.Adding.{open_sound}
use Rattle.chains.proofs.table.ChainTable.open.Goals as goal

pub invariant_of-self : goal.invariant_of-self
invariant_of-self c =
    let t = c.args.self.now in record { fits = t.fits; taken = t.taken; few = t.few; many = t.many; sound = ∣ open_sound (vec_items t.chains) (vec_items t.rows) t.made t.used t.versions (opened t) ∣₁ }
