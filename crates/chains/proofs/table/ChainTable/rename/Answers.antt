use Rattle.std.proofs.Common.{◌≡◌, ℕ, length, get_or, vec_items, sym, refl, subst, arith}
use Rattle.std.specs.Vec.{with_items}
use Rattle.std.proofs.lemmas.List.{with_items_is}
use Rattle.order.specs.Items.{position}
use Rattle.fields.specs.Fields.{field_number, redirect}
use Rattle.entries.specs.Entries.{mapped}
use Rattle.entries.proofs.Counting.{mapped_length}
use Rattle.chain_rows.specs.declared.row.Chain.{Chain}
use Rattle.chain_rows.specs.Chains.{Off, blank}
use Rattle.chain_rows.proofs.Mapping.{map_sound, map_other, map_here}
use Rattle.chains.proofs.Opened.{opened}
use Rattle.chains.proofs.Asked.{served}
use Rattle.chains.proofs.table.ChainTable.rename.Goals as goal

pub rename_entries-requires-clause-chained : goal.rename_entries-requires-clause-chained
rename_entries-requires-clause-chained g c =
    let A = served c.args.self.now (length (g.O.VersionOrder.items c.args.order.now)) c.args.i c.args.x c.index-chain.result.now c.if-not-answers.ensures c.index-chain.ensures in
    rw c.deref_mut.ensures.value A.chained

pub invariant_of-self : goal.invariant_of-self
invariant_of-self g c =
    let t = c.args.self.now in
    let w : c.rename_entries.new.rows ≡ vec_items (with_items c.args.self.now.rows c.rename_entries.new.rows) =
    sym (with_items_is c.args.self.now.rows c.rename_entries.new.rows (omega (arith, c.rename_entries.auto.rows, c.deref_mut.ensures.len))) in
    let P = rw (c.deref_mut.ensures.value, w) at c.rename_entries.ensures in record {
      fits = t.fits;
      taken = t.taken;
      few = t.few;
      many = t.many;
      sound = ∣ map_sound (vec_items t.chains) (vec_items t.rows) (vec_items (with_items t.rows c.rename_entries.new.rows)) t.made t.used t.versions P.shape (opened t) ∣₁;
    }

pub returns : goal.returns
returns g c =
    let t = c.args.self.now in
    let A = served t (length (g.O.VersionOrder.items c.args.order.now)) c.args.i c.args.x c.index-chain.result.now c.if-not-answers.ensures c.index-chain.ensures in
    let w : c.rename_entries.new.rows ≡ vec_items (with_items c.args.self.now.rows c.rename_entries.new.rows) =
    sym (with_items_is c.args.self.now.rows c.rename_entries.new.rows (omega (arith, c.rename_entries.auto.rows, c.deref_mut.ensures.len))) in
    let P = rw (c.deref_mut.ensures.value, w) at c.rename_entries.ensures in
    let rows = vec_items (with_items t.rows c.rename_entries.new.rows) in
    let pos = position (g.O.VersionOrder.items c.args.order.now) in
    record {
      made = refl;
      versions = refl;
      chains = refl;
      rows = refl;
      others = map_other (vec_items t.chains) (vec_items t.rows) rows t.made t.used t.versions c.args.i (opened t) A.there
          (subst (λ (r : Chain). (j : ℕ) → Off j (vec_items t.rows) r.head r.len → get_or rows j blank ≡ get_or (vec_items t.rows) j blank) A.is P.frame);
      here = λ _ _.
          map_here (mapped pos (redirect c.args.names.old c.args.names.new) (field_number c.args.field) (pos c.args.x)) (vec_items t.chains) (vec_items t.rows) rows
          c.args.i t.used c.index-chain.result.now A.is
          (λ es. mapped_length pos (redirect c.args.names.old c.args.names.new) (field_number c.args.field) (pos c.args.x) es) P.renames;
    }
