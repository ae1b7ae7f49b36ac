use Rattle.std.proofs.Common.{◌≡◌, false, vec_items, sym, ap, ◌∙◌, subst, arith, rules}
use Rattle.std.specs.Vec.{with_items}
use Rattle.std.proofs.lemmas.List.{with_items_is}
use Rattle.single.specs.Rows.{raised, lowered, crowds}
use Rattle.single.proofs.Table.{Fine, fine_renamed}
use Rattle.single.proofs.Means.{fine, table_long}
use Rattle.single.proofs.FirstReads.{is_left}
use Rattle.single.proofs.store.SingleMemory.rename.Goals as goal

pub invariant_of-self : goal.invariant_of-self
invariant_of-self c =
    let s = c.args.self.now in
    let old = c.args.old in
    let to = c.args.to in
    let more = with_items s.rows c.raise.new.rows in
    let all = with_items more c.lower.new.rows in
    let q : crowds (vec_items s.rows) old to ≡ false = search rules in
    let w : vec_items more ≡ c.raise.new.rows = with_items_is s.rows c.raise.new.rows (omega (arith, c.raise.auto.rows, c.deref_mut.ensures.len)) in
    let v : vec_items all ≡ c.lower.new.rows = with_items_is more c.lower.new.rows (omega (arith, c.lower.auto.rows, c.deref_mut-2.ensures.len)) in
    let e : vec_items all ≡ lowered (raised (vec_items s.rows) to) old = v ∙ c.lower.ensures ∙ ap (λ xs. lowered xs old) (c.deref_mut-2.ensures.value ∙ w ∙ c.raise.ensures ∙ ap (λ xs. raised xs to) c.deref_mut.ensures.value) in
    let F : Fine s.made (vec_items all) = subst (Fine s.made) (sym e) (fine_renamed s.made (vec_items s.rows) old to (table_long s) c.requires.held c.requires.known q (fine s)) in
    record { few = s.few; roomy = s.roomy; spent = (let l = is_left s (sym c.in_ok-has_change_left.ensures) in omega arith); rooted = s.rooted; held = s.held; linked = F.linked; two = F.two; named = F.named }
