use Rattle.std.proofs.Common.{◌≡◌, ◌<◌, length, get_or, None, vec_items, Ok, sym, refl, ◌∙◌, arith, length-set}
use Rattle.memory.proofs.Accepted.{link_done}
use Rattle.single.specs.Rows.{row_linked, node_of}
use Rattle.single.proofs.Table.{all_at, all_set, Fine, fine_set}
use Rattle.single.proofs.Means.{fine, table_long, reg_below, row_below, row_two, row_few, free, reg_few, rename_means, number_rows, same_linked, same_row}
use Rattle.single.proofs.FirstReads.{refuses_back, relink_refused, row_read, node_low, node_in, name_given, is_left}
use Rattle.single.proofs.calls.SingleMemoryPointerMemory.link.Goals as goal

pub index-requires : goal.index-requires
index-requires g c = node_in c.args.self.now c.args.from _ (sym c.in_ok-k.ensures)

pub rename-requires-clause-held : goal.rename-requires-clause-held
rename-requires-clause-held g c =
    let s = c.args.self.now in
    let r = c.index.result.now in
    all_at s.made r.links (row_below s _ r c.index.ensures (node_low s c.args.from _ (sym c.in_ok-k.ensures))) c.args.side

pub rename-requires-clause-known : goal.rename-requires-clause-known
rename-requires-clause-known g c = reg_below c.args.self.now c.args.reg

pub returns-in_err-rename-clause-does : goal.returns-in_err-rename-clause-does
returns-in_err-rename-clause-does g c m h =
    let s = c.args.self.now in
    let H = row_read s m c.args.from _ c.index.result.now h c.index.ensures (sym c.in_ok-k.ensures) in
    refuses_back c.in_err-rename.ensures.1 c.from_residual-in_err-rename.ensures.1 (relink_refused s m c.args.from c.args.side c.args.reg _ H.0 _ h H.1 c.if-side-ge2.false c.if-reg-ge40.false
    (rw (H.2.links c.args.side c.if-side-ge2.false) c.in_err-rename.ensures.0))

pub index_mut-requires : goal.index_mut-requires
index_mut-requires g c = node_in c.rename.new.self c.args.from _ (rw c.in_ok-rename.ensures.1.regs (sym c.in_ok-k.ensures))

pub invariant_of-self : goal.invariant_of-self
invariant_of-self g c =
    let s = c.args.self.now in
    let t = c.rename.new.self in
    let r = c.index_mut.result.now in
    let e = c.index_mut.ensures.value in
    let new = get_or s.regs c.args.reg None in
    let D = c.in_ok-rename.ensures.1 in
    let l = node_low t c.args.from c.in_ok-k.k (rw D.regs (sym c.in_ok-k.ensures)) in
    let F : Fine t.made _ = fine_set t.made (vec_items t.rows) c.in_ok-k.k (row_linked c.args.side new r) (let a = table_long t in omega arith) (fine t)
    (all_set t.made r.links c.args.side new (row_below t _ r e l) (rw D.made (reg_below s c.args.reg))) (length-set r.links c.args.side new ∙ row_two t _ r e l) (row_few t _ r e l) in
    record { few = t.few; roomy = t.roomy; spent = t.spent; rooted = t.rooted; held = t.held; linked = F.linked; two = F.two; named = F.named }

pub returns-clause-does : goal.returns-clause-does
returns-clause-does g c m h =
    let s = c.args.self.now in
    let t = c.rename.new.self in
    let k = c.in_ok-k.k in
    let r = c.index.result.now in
    let q = c.index_mut.result.now in
    let old = get_or r.links c.args.side None in
    let new = get_or s.regs c.args.reg None in
    let D = c.in_ok-rename.ensures.1 in
    let given = name_given (vec_items s.rows) old new _ c.in_ok-rename.ensures.0 in
    let reg = h.regs c.args.reg c.if-reg-ge40.false in
    let l = node_low s c.args.from k (sym c.in_ok-k.ensures) in
    let H = row_read s m c.args.from k r h c.index.ensures (sym c.in_ok-k.ensures) in
    let link = H.2.links c.args.side c.if-side-ge2.false in
    let M = rename_means s t m old new h D (all_at s.made r.links (row_below s k r c.index.ensures l) c.args.side) (reg_below s c.args.reg) in
    let held : node_of t.regs c.args.from ≡ Ok k = rw D.regs (sym c.in_ok-k.ensures) in
    let l' = node_low t c.args.from k held in
    let S = same_row t _ k q H.0 M c.index_mut.ensures.value l' H.1.node in
    let within : c.args.side < length q.links = omega (arith, row_two t k q c.index_mut.ensures.value l', c.if-side-ge2.false) in
    rw (link_done c.args.from c.args.side c.args.reg k H.0 m H.1 c.if-side-ge2.false c.if-reg-ge40.false (free s m h (is_left s given.0)) (rw link (reg_few s m c.args.reg old h c.if-reg-ge40.false given.1)))
    (record {
      is = (
        refl,
        record {
          roots = M.roots;
          regs = M.regs;
          rows = rw link (rw reg (number_rows t _ k q _ _ M c.index_mut.ensures.value l' refl (same_linked H.0 q c.args.side new new within refl S)));
          made = M.made;
          changed = M.changed;
          node_limit = M.node_limit;
          change_limit = M.change_limit;
          writable = M.writable;
        },
      );
    })
