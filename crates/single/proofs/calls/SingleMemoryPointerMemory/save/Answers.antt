use Rattle.std.proofs.Common.{◌<◌, length, get_or, None, vec_items, refl, rules}
use Rattle.memory.proofs.Accepted.{save_done}
use Rattle.single.proofs.Table.{all_set, array_set}
use Rattle.single.proofs.Means.{reg_below, root_below, free, reg_few, rename_means}
use Rattle.single.proofs.FirstReads.{refuses_back, save_refused, name_given, is_left}
use Rattle.single.proofs.calls.SingleMemoryPointerMemory.save.Goals as goal

pub rename-requires-clause-known : goal.rename-requires-clause-known
rename-requires-clause-known g c = reg_below c.args.self.now c.args.reg

pub returns-in_err-rename-clause-does : goal.returns-in_err-rename-clause-does
returns-in_err-rename-clause-does g c m h = refuses_back c.in_err-rename.ensures.1 c.from_residual.ensures.1 (save_refused c.args.self.now m c.args.root c.args.reg _ h c.if-root-ge3.false c.if-reg-ge40.false c.in_err-rename.ensures.0)

pub invariant_of-self-clause-rooted : goal.invariant_of-self-clause-rooted
invariant_of-self-clause-rooted g c = let t = c.rename.new.self in all_set t.made t.roots c.args.root _ t.rooted (rw c.in_ok-rename.ensures.1.made (reg_below c.args.self.now c.args.reg))

pub returns-clause-does : goal.returns-clause-does
returns-clause-does g c m h =
    let s = c.args.self.now in
    let t = c.rename.new.self in
    let old = get_or s.roots c.args.root None in
    let new = get_or s.regs c.args.reg None in
    let root = h.roots c.args.root c.if-root-ge3.false in
    let reg = h.regs c.args.reg c.if-reg-ge40.false in
    let within : c.args.root < length t.roots = search rules in
    let given = name_given (vec_items s.rows) old new _ c.in_ok-rename.ensures.0 in
    let M = rename_means s t m old new h c.in_ok-rename.ensures.1 (root_below s c.args.root) (reg_below s c.args.reg) in
    rw (save_done c.args.root c.args.reg m c.if-root-ge3.false c.if-reg-ge40.false (free s m h (is_left s given.0)) (rw root (reg_few s m c.args.reg old h c.if-reg-ge40.false given.1)))
    (record {
      is = (
        refl,
        record {
          roots = array_set t.roots 3 c.args.root _ _ m.state.roots within reg M.roots;
          regs = M.regs;
          rows = rw root (rw reg M.rows);
          made = M.made;
          changed = M.changed;
          node_limit = M.node_limit;
          change_limit = M.change_limit;
          writable = M.writable;
        },
      );
    })
