-- A key is taken out of the map, from the root down and up again.
use Rattle.std.proofs.Common.{◌≡◌, ℕ, ◌+◌, ◌*◌, ◌≤◌, Bool, false, cond, eqb, Some, None, sym, refl, ap, ◌∙◌, inl, inr, arith}
use Rattle.std.proofs.lemmas.Bool.Decides.{eqb_tells}
use Rattle.trees.specs.Trees.{root_of, occurrences, height}
use Rattle.trees.specs.RedBlack.{Balanced}
use Rattle.trees.specs.Removal.{removed, removed_serial}
use Rattle.trees.proofs.Maps.{drop_removes}
use Rattle.trees.proofs.Rules.{to_balanced}
use Rattle.trees.proofs.Heights.{low_height}
use Rattle.trees.proofs.RemovedLists.{removed_occurrences}
use Rattle.memory.specs.Memory.{Node, Memory}
use Rattle.memory.specs.Steps.{with_reg}
use Rattle.memory.proofs.Numbers.{put_same, put_other, some_same}
use Rattle.memory.proofs.By.{ends_then, ends_all, by_load}
use Rattle.stored.specs.Stored.{side, colour}
use Rattle.stored.specs.Writes.{resave_of}
use Rattle.stored.specs.Becomes.{Ready}
use Rattle.stored.specs.Whole.{Whole}
use Rattle.stored.proofs.Wholes.{ready_first, once_first, prepared, save_ends, size_made}
use Rattle.map_steps.specs.Remove.{way_to, remove_of, drop_of}
use Rattle.map_steps.specs.Theorems.{DropRemoves}
use Rattle.map_steps.proofs.Firsts.{thrifty_all}
use Rattle.map_steps.proofs.Roots.{Bare, Removed}
use Rattle.map_steps.proofs.Removes.{remove_cost, remove_thrifty, remove_ends}

pub drop_ends : DropRemoves
unfolding drop_of
drop_ends before sooner o k m t a b S room nil there =
    by_load _ _ 0 0 m (root_of t) (omega arith) (omega arith) W.first
    (ends_then (remove_of (way_to before k) 25 0 m₁) _ (λ short m₂. Removed m₁ m₂ 0 t (removed before k t) gone (remove_cost before k t) short) _
    (remove_ends before k o 25 m₁ 0 t there R (once_first W) (put_other m.regs 0 35 (root_of t) (omega arith) ∙ nil) B (omega (arith, tall)) (omega (arith, tall)) (omega (arith, room.changes, tall)))
    (λ short m₂ F.
    let V = F.becomes in
    let mk : m₂.made ≡ m.made = omega (arith, V.made, co) in
    ends_all (resave_of 0 0 m₂) _ _
    (save_ends (omega arith) (λ q. omega arith) (λ q. omega arith) W
    (prepared W refl refl V
    (λ i p. omega (arith, ut i))
    (λ i p. omega (arith, ut i, R.distinct i))
    (λ i p. let w = R.within i (omega (arith, ut i)) in omega arith)
    (λ i p q. absurd (omega arith))
    (λ i x s p q z e. bare_at i x s F.bare q z e))
    V.reg (record { writable = V.writable ∙ room.writable; left = omega (arith, V.linked, V.numbered, V.change_limit, room.changes, low.0, low.1, tall) }))
    (λ _ m₃ G.
    let P = G.1 in
    record {
      stands = record { whole = rw there G.0; map_tree = (drop_removes ℕ before o k t S.map_tree).map; due_heap = S.due_heap; held_heap = S.held_heap };
      spent = record {
        linked = omega (arith, P.linked, V.linked, low.0, tall);
        numbered = omega (arith, P.numbered, V.numbered, low.1, tall);
        changed = omega (arith, P.linked, P.numbered, V.linked, V.numbered, low.0, low.1, tall);
        made = omega (arith, P.made, mk);
        node_limit = P.node_limit ∙ V.node_limit;
        change_limit = P.change_limit ∙ V.change_limit;
        writable = P.writable ∙ V.writable;
        rest = P.rest ∙ V.rest;
      };
    })))
  where
    W : Whole m t a b
    W = S.whole

    m₁ : Memory
    m₁ = with_reg m 0 (root_of t)

    R : Ready colour m₁ 0 t
    R = ready_first W m₁ 0 refl refl (put_same m.regs 0 (root_of t)) room.writable

    B : Balanced t
    B = to_balanced t S.map_tree.red_black

    tall : height t ≤ 24
    tall = low_height t B S.map_tree.red_black.black_root (omega (arith, size_made W, room.nodes))

    gone : ℕ
    gone = removed_serial before k t

    ut : (i : ℕ) → occurrences i (removed before k t).tree + cond (eqb i gone) 1 0 ≡ occurrences i t
    ut i = removed_occurrences o k t i there

    low : ((remove_cost before k t).links ≤ height t + 4 + 9) × ((remove_cost before k t).numbers ≤ 2 * height t + 1 + 5)
    low = thrifty_all (height t) 4 1 (removed before k t) (remove_cost before k t) (remove_thrifty before k t)

    co : (remove_cost before k t).nodes ≡ 0
    co = (remove_thrifty before k t).nodes

    -- a node that is gone is the key's
    is_gone : (i : ℕ) → 1 ≤ occurrences i t → occurrences i (removed before k t).tree ≡ 0 → i ≡ gone
    is_gone i p z = elim (eqb_tells i gone) [ inl q ↦ q.1 | inr q ↦ let w : occurrences i (removed before k t).tree + cond {A = ℕ} false 1 0 ≡ occurrences i t = rw q.0 at (ut i) in absurd (omega arith) ]

    bare_at : {m₂ : Memory} (i : ℕ) (x : Node) (s : Bool) → Bare m₂ gone → 1 ≤ occurrences i t → occurrences i (removed before k t).tree ≡ 0 → m₂.state.nodes i ≡ Some x → x.links (side s) ≡ None
    bare_at {m₂ = m₂} i x s Z p z e =
        let same : i ≡ gone = is_gone i p z in
        let eq : x ≡ Z.node = some_same (sym e ∙ ap m₂.state.nodes same ∙ Z.there) in
        ap (λ (y : Node). y.links (side s)) eq ∙ Z.nil s
