use Rattle.std.proofs.Common.{◌+◌, ◌<◌, length, Some, vec_items, refl, ap, arith, rules}
use Rattle.memory.proofs.Accepted.{make_done}
use Rattle.memory.proofs.Numbers.{lt_true}
use Rattle.single.proofs.Table.{all_set, all_more, array_set}
use Rattle.single.proofs.Means.{fine, born_fine, born_rows}
use Rattle.single.proofs.calls.SingleMemoryPointerMemory.make.Goals as goal

pub invariant_of-self : goal.invariant_of-self
invariant_of-self g c =
    let s = c.args.self.now in
    let n = s.made in
    let room : n < length (vec_items s.rows) = search rules in
    let F = born_fine n (vec_items s.rows) c.new.result c.args.key c.args.value c.args.mark c.new.ensures room (fine s) in record { few = omega arith; roomy = search rules; spent = s.spent; rooted = all_more n (n + 1) s.roots (omega arith) s.rooted; held = all_set (n + 1) s.regs c.args.reg _ (all_more n (n + 1) s.regs (omega arith) s.held) (lt_true n (n + 1) (omega arith)); linked = F.linked; two = F.two; named = F.named }

pub returns-clause-does : goal.returns-clause-does
returns-clause-does g c m h =
    let s = c.args.self.now in
    let within : c.args.reg < length s.regs = search rules in
    let room : s.made < length (vec_items s.rows) = search rules in
    rw (make_done c.args.reg c.args.key c.args.value c.args.mark m (omega arith) h.writable (omega (arith, h.made, h.node_limit)))
    (record {
      is = (
        refl,
        record {
          roots = h.roots;
          regs = array_set s.regs 40 c.args.reg _ _ m.regs within (ap Some h.made) h.regs;
          rows = born_rows s m c.new.result c.args.key c.args.value c.args.mark h c.new.ensures room;
          made = omega (arith, h.made);
          changed = h.changed;
          node_limit = h.node_limit;
          change_limit = h.change_limit;
          writable = h.writable;
        },
      );
    })
