use Rattle.std.proofs.Common.{◌≡◌, Ok, refl}
use Rattle.memory.specs.Steps.{of_number}
use Rattle.memory.proofs.Accepted.{set_number_done}
use Rattle.single.specs.Rows.{node_of}
use Rattle.single.proofs.Means.{free, change_means, number_rows, same_marked}
use Rattle.single.proofs.FirstReads.{refuses_back, number_refused, row_read, node_low, node_in, node_given, is_left}
use Rattle.single.proofs.calls.SingleMemoryPointerMemory.set_mark.Goals as goal

pub returns-in_err-k-clause-does : goal.returns-in_err-k-clause-does
returns-in_err-k-clause-does g c m h = refuses_back c.in_err-k.ensures.1 c.from_residual.ensures.1 (number_refused c.args.self.now m 1 c.args.reg c.args.mark _ h c.in_err-k.ensures.0)

pub index_mut-requires : goal.index_mut-requires
index_mut-requires g c =
    let t = c.changing.new.self in
    node_in t c.args.reg _ (rw c.in_ok-k.ensures.1.regs (node_given _ _ _ c.in_ok-k.ensures.0).0)

pub returns-clause-does : goal.returns-clause-does
returns-clause-does g c m h =
    let s = c.args.self.now in
    let t = c.changing.new.self in
    let k = c.in_ok-k.k in
    let r = c.index_mut.result.now in
    let D = c.in_ok-k.ensures.1 in
    let given = node_given _ _ _ c.in_ok-k.ensures.0 in
    let M = change_means s t m of_number _ m.state.names h D h.rows in
    let held : node_of t.regs c.args.reg ≡ Ok k = rw D.regs given.0 in
    let H = row_read t _ c.args.reg k r M c.index_mut.ensures.value held in
    rw (set_number_done 1 c.args.reg c.args.mark k H.0 m (record { low = H.1.low; names = H.1.names; node = H.1.node }) (free s m h (is_left s given.1)))
    (record {
      is = (
        refl,
        record {
          roots = M.roots;
          regs = M.regs;
          rows = number_rows t _ k r _ _ M c.index_mut.ensures.value (node_low t c.args.reg k held) refl (same_marked H.0 r c.args.mark H.2);
          made = M.made;
          changed = M.changed;
          node_limit = M.node_limit;
          change_limit = M.change_limit;
          writable = M.writable;
        },
      );
    })
