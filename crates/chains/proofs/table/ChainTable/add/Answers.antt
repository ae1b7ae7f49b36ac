use Rattle.std.proofs.Common.{◌<◌, length, vec_items, arith}
use Rattle.chains.proofs.Opened.{opened}
use Rattle.chain_rows.proofs.Adding.{add_sound}
use Rattle.chains.proofs.table.ChainTable.add.Goals as goal

pub invariant_of-self : goal.invariant_of-self
invariant_of-self c =
    let t = c.args.self.now in
    let lm : t.made < length (vec_items t.chains) = omega (arith, c.if-made-len.false, c.len.ensures, t.chains.ok.0) in record { fits = omega (arith, lm, t.chains.ok.0); taken = t.taken; few = t.few; many = t.many; sound = ∣ add_sound (vec_items t.chains) (vec_items t.rows) t.made t.used t.versions (opened t) lm ∣₁ }
