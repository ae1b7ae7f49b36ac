use Rattle.std.proofs.Common.{◌≡◌, vec_items, sym, arith}
use Rattle.std.proofs.lemmas.List.{with_items_is}
use Rattle.std.specs.Vec.{with_items}
use Rattle.linked_lists.proofs.Linking.{next_fits}
use Rattle.linked_lists.proofs.Open.{opened}
use Rattle.linked_lists.proofs.Tables.{sound_linked}
use Rattle.linked_lists.proofs.table.Table.link.Goals as goal

pub link-requires-clause-there : goal.link-requires-clause-there
link-requires-clause-there g c = rw c.deref_mut.ensures.value (next_fits _ _ _ (opened c.args.self.now.sound).links c.requires.known)

pub invariant_of-self : goal.invariant_of-self
invariant_of-self g c =
    let w : c.link.new.rows ≡ vec_items (with_items c.args.self.now.rows c.link.new.rows) =
    sym (with_items_is c.args.self.now.rows c.link.new.rows (omega (arith, c.link.auto.rows, c.deref_mut.ensures.len))) in
    let e = rw (c.deref_mut.ensures.value, w) at c.link.ensures in
    record { sound = ∣ sound_linked (opened c.args.self.now.sound) c.args.a c.args.tag c.requires.known c.requires.room _ e ∣₁ }

pub returns-clause-rows : goal.returns-clause-rows
returns-clause-rows g c =
    let w : c.link.new.rows ≡ vec_items (with_items c.args.self.now.rows c.link.new.rows) =
    sym (with_items_is c.args.self.now.rows c.link.new.rows (omega (arith, c.link.auto.rows, c.deref_mut.ensures.len))) in
    rw (c.deref_mut.ensures.value, w) at c.link.ensures
