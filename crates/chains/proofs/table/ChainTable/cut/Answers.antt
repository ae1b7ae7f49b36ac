use Rattle.std.proofs.Common.{rules, ◌≡◌, ◌-◌, ◌<◌, ◌≤◌, true, false, ltb, leb, length, get_or, vec_items, sym, refl, ap, ◌∙◌, subst, arith}
use Rattle.order.specs.Items.{position}
use Rattle.entries.specs.Entries.{Sorted, entries_before, entries_behind}
use Rattle.chain_rows.specs.declared.row.Chain.{Chain}
use Rattle.chain_rows.specs.Chains.{blank, chain, node}
use Rattle.chain_rows.proofs.Skipping.{rest_each, skipped_by}
use Rattle.chain_rows.proofs.Cutting.{tail_is, fronts, rears, cut_sound, two_c, two_d, two_j}
use Rattle.chains.specs.Views.{entries_of}
use Rattle.chains.proofs.Opened.{opened}
use Rattle.chains.proofs.Asked.{served}
use Rattle.chains.proofs.table.ChainTable.cut.Goals as goal

pub skip_while-rest-requires-clause-inside : goal.skip_while-rest-requires-clause-inside
skip_while-rest-requires-clause-inside g c =
    let A = served c.args.self.now (length (g.O.VersionOrder.items c.args.order.now)) c.args.c c.args.x c.index-chain.result.now c.if-not-answers.ensures c.index-chain.ensures in
    rw c.deref.ensures.value A.inside

pub skip_while-tail-requires-clause-inside : goal.skip_while-tail-requires-clause-inside
skip_while-tail-requires-clause-inside g c =
    let A = served c.args.self.now (length (g.O.VersionOrder.items c.args.order.now)) c.args.c c.args.x c.index-chain.result.now c.if-not-answers.ensures c.index-chain.ensures in
    rw c.deref-2.ensures.value
    (rest_each (λ j. j < length (vec_items c.args.self.now.rows)) _ _ _ _ _ (rw c.deref.ensures.value at c.skip_while-rest.ensures) A.inside)

pub invariant_of-self : goal.invariant_of-self
invariant_of-self g c =
    let t = c.args.self.now in
    let A = served t (length (g.O.VersionOrder.items c.args.order.now)) c.args.c c.args.x c.index-chain.result.now c.if-not-answers.ensures c.index-chain.ensures in
    let R = rw c.deref.ensures.value at c.skip_while-rest.ensures in
    let T = rw c.deref-2.ensures.value at c.skip_while-tail.ensures in
    let e = A.is in
    let lm : t.made < length (vec_items t.chains) = omega (arith, c.if-made-len.false, c.len.ensures, t.chains.ok.0) in record {
      fits = omega (arith, lm, t.chains.ok.0);
      taken = t.taken;
      few = t.few;
      many = t.many;
      sound = ∣ cut_sound (vec_items t.chains) (vec_items t.rows) t.made t.used t.versions c.args.c c.skip_while-rest.result.len c.skip_while-tail.result.len _ _ (opened t) A.there lm
          (subst (λ (r : Chain). c.skip_while-rest.result.len ≤ r.len) e R.short) T.short
          (ap (λ (r : Chain). r.head) e) (ap (λ (r : Chain). r.len - c.skip_while-rest.result.len) e)
          (tail_is _ _ _ _ _ _ _ _ R T ∙ ap (λ (r : Chain). node (vec_items t.rows) r.head (r.len - c.skip_while-tail.result.len)) e) refl ∣₁;
    }

pub returns : goal.returns
returns g c =
    let t = c.args.self.now in
    let n = length (g.O.VersionOrder.items c.args.order.now) in
    let pos = position (g.O.VersionOrder.items c.args.order.now) in
    let A = served t (length (g.O.VersionOrder.items c.args.order.now)) c.args.c c.args.x c.index-chain.result.now c.if-not-answers.ensures c.index-chain.ensures in
    let lx = A.version in
    let R = rw c.deref.ensures.value at c.skip_while-rest.ensures in
    let T = rw c.deref-2.ensures.value at c.skip_while-tail.ensures in
    let B = skipped_by _ _ (λ v. ltb (pos v) (pos c.args.x) ≡ true) (λ v. ltb (pos v) (pos c.args.x) ≡ false) n (vec_items t.rows) c.index-chain.result.now c.skip_while-rest.result
    A.chained.1 R (λ v l p. search rules) (λ v l p. grind (arith, p)) in
    let F = skipped_by _ _ (λ v. leb (pos v) (pos c.args.x) ≡ true) (λ v. leb (pos v) (pos c.args.x) ≡ false) n (vec_items t.rows) c.skip_while-rest.result c.skip_while-tail.result
    (rest_each (λ j. (get_or (vec_items t.rows) j blank).version < n) _ _ _ _ _ R A.chained.1) T (λ v l p. grind (arith, p)) (λ v l p. grind (arith, p)) in
    let e = A.is in
    let lm : t.made < length (vec_items t.chains) = omega (arith, c.if-made-len.false, c.len.ensures, t.chains.ok.0) in
    let sorts : Sorted pos (entries_of c.args.self.now c.args.c)
    → Sorted pos (chain (vec_items c.args.self.now.rows) c.index-chain.result.now.head c.index-chain.result.now.len) =
    λ o. subst (λ (r : Chain). Sorted pos (chain (vec_items c.args.self.now.rows) r.head r.len)) (sym e) o in
    record {
      versions = refl;
      chains = refl;
      rows = refl;
      used = refl;
      others = λ j lj m. ap (λ (z : Chain). chain (vec_items t.rows) z.head z.len) (two_j (vec_items t.chains) t.made c.args.c _ _ j lj m);
      made = λ _ _. refl;
      front = λ _ _ o.
          ap (λ (z : Chain). chain (vec_items t.rows) z.head z.len) (two_c (vec_items t.chains) t.made c.args.c _ _ A.there lm)
          ∙ (fronts _ (vec_items t.rows) _ _ _ _ B F (sorts o)
          ∙ ap (λ (r : Chain). entries_before pos (pos c.args.x) (chain (vec_items c.args.self.now.rows) r.head r.len)) e);
      back = λ _ _ o.
          ap (λ (z : Chain). chain (vec_items t.rows) z.head z.len) (two_d (vec_items t.chains) t.made c.args.c _ _ A.there lm)
          ∙ (rears _ (vec_items t.rows) _ _ _ _ B F (sorts o)
          ∙ ap (λ (r : Chain). entries_behind pos (pos c.args.x) (chain (vec_items c.args.self.now.rows) r.head r.len)) e);
    }
