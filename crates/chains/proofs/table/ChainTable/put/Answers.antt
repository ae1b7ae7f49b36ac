use Rattle.std.proofs.Common.{◌≡◌, ◌<◌, length, vec_items, vec_len, sym, refl, ap, arith}
use Rattle.std.specs.Vec.{with_items}
use Rattle.std.proofs.lemmas.List.{with_items_is}
use Rattle.order.specs.Items.{position}
use Rattle.fields.specs.Fields.{field_number}
use Rattle.entries.specs.Entries.{put}
use Rattle.chain_rows.specs.declared.row.Chain.{Chain}
use Rattle.chain_rows.proofs.Keeping.{put_sound, put_other, put_here}
use Rattle.chains.proofs.Opened.{opened, made_long}
use Rattle.chains.proofs.Asked.{served, grown}
use Rattle.chains.proofs.table.ChainTable.put.Goals as goal

pub put_entry-longer-requires-clause-chained : goal.put_entry-longer-requires-clause-chained
put_entry-longer-requires-clause-chained g c =
    let A = served c.args.self.now (length (g.O.VersionOrder.items c.args.order.now)) c.args.i c.args.v c.index-chain.result.now c.if-not-answers.ensures c.index-chain.ensures in
    rw c.deref_mut.ensures.value A.chained

pub invariant_of-self : goal.invariant_of-self
invariant_of-self g c =
    let t = c.args.self.now in
    let n = length (g.O.VersionOrder.items c.args.order.now) in
    let A = served t (length (g.O.VersionOrder.items c.args.order.now)) c.args.i c.args.v c.index-chain.result.now c.if-not-answers.ensures c.index-chain.ensures in
    let w : c.put_entry-longer.new.rows ≡ vec_items (with_items c.args.self.now.rows c.put_entry-longer.new.rows) =
    sym (with_items_is c.args.self.now.rows c.put_entry-longer.new.rows (omega (arith, c.put_entry-longer.auto.rows, c.deref_mut.ensures.len))) in
    let P = rw (c.deref_mut.ensures.value, w) at c.put_entry-longer.ensures in
    let rows = vec_items (with_items t.rows c.put_entry-longer.new.rows) in
    let new = c.put_entry-longer.result in
    let l = ap (λ (r : Chain). r.len) A.is in
    let fits = P.fits in
    let long = t.rows.ok.0 in record {
      fits = t.fits;
      taken = omega (arith, fits, long);
      few = t.few;
      many = t.many;
      sound = ∣ rw l (put_sound (vec_items t.chains) (vec_items t.rows) rows t.made t.used t.versions c.args.i new (opened t) A.there (made_long t)
          (grown t n c.args.i c.args.v c.index-chain.result.now new rows A P.grows)) ∣₁;
    }

pub returns : goal.returns
returns g c =
    let t = c.args.self.now in
    let n = length (g.O.VersionOrder.items c.args.order.now) in
    let A = served t (length (g.O.VersionOrder.items c.args.order.now)) c.args.i c.args.v c.index-chain.result.now c.if-not-answers.ensures c.index-chain.ensures in
    let w : c.put_entry-longer.new.rows ≡ vec_items (with_items c.args.self.now.rows c.put_entry-longer.new.rows) =
    sym (with_items_is c.args.self.now.rows c.put_entry-longer.new.rows (omega (arith, c.put_entry-longer.auto.rows, c.deref_mut.ensures.len))) in
    let P = rw (c.deref_mut.ensures.value, w) at c.put_entry-longer.ensures in
    let rows = vec_items (with_items t.rows c.put_entry-longer.new.rows) in
    let new = c.put_entry-longer.result in
    let lt : c.args.i < length (vec_items c.args.self.now.chains) = let k = made_long t in let h = A.there in omega (arith, k, h) in
    record {
      made = refl;
      versions = refl;
      chains = refl;
      rows = refl;
      others = put_other (vec_items t.chains) (vec_items t.rows) rows t.made t.used t.versions c.args.i new (opened t) A.there (made_long t)
          (grown t n c.args.i c.args.v c.index-chain.result.now new rows A P.grows);
      here = λ _.
          put_here (put (position (g.O.VersionOrder.items c.args.order.now)) (field_number c.args.field) c.args.v c.args.value) (vec_items t.chains) (vec_items t.rows) rows
          c.args.i t.used (vec_len t.rows) c.index-chain.result.now new lt A.is P.grows.longer.0 (λ h. P.puts (let k = t.rows.ok.0 in omega (arith, h, k)));
    }
