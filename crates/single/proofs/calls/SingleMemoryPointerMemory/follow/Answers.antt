use Rattle.std.proofs.Common.{◌<◌, length, refl, rules}
use Rattle.memory.proofs.Accepted.{follow_done}
use Rattle.single.proofs.Table.{all_at, all_set, array_set}
use Rattle.single.proofs.Means.{row_below}
use Rattle.single.proofs.FirstReads.{node_low, row_read}
use Rattle.single.proofs.calls.SingleMemoryPointerMemory.follow.Goals as goal

pub invariant_of-self-clause-held : goal.invariant_of-self-clause-held
invariant_of-self-clause-held g c =
    let s = c.args.self.now in
    let r = c.in_ok-row.row in
    all_set s.made s.regs c.args.reg _ s.held (all_at s.made r.links (row_below s _ r c.in_ok-row.ensures.2 (node_low s c.args.from _ c.in_ok-row.ensures.1)) c.args.side)

pub returns-clause-does : goal.returns-clause-does
returns-clause-does g c m h =
    let s = c.args.self.now in
    let R = row_read s m c.args.from _ _ h c.in_ok-row.ensures.2 c.in_ok-row.ensures.1 in
    let within : c.args.reg < length s.regs = search rules in
    rw (follow_done c.args.from c.args.side c.args.reg _ R.0 m R.1 c.if-side-ge2.false c.if-reg-ge40.false)
    (record { is = (refl, record { roots = h.roots; regs = array_set s.regs 40 c.args.reg _ _ m.regs within (R.2.links c.args.side c.if-side-ge2.false) h.regs; rows = h.rows; made = h.made; changed = h.changed; node_limit = h.node_limit; change_limit = h.change_limit; writable = h.writable }) })
