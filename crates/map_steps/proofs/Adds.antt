-- A new key is put into the map, from the root down and up again.
use Rattle.std.proofs.Common.{◌≡◌, ℕ, suc, ◌+◌, ◌*◌, ◌≤◌, Bool, true, false, cond, eqb, refl, ◌∙◌, arith}
use Rattle.std.proofs.lemmas.Bool.Decides.{nat_tests}
use Rattle.trees.specs.Trees.{Tree, leaf, node, is_node, root_of, with_mark, occurrences, height}
use Rattle.trees.specs.RedBlack.{Balanced, AlmostBalanced, inserted}
use Rattle.trees.proofs.Insertion.{grows, inserted_sum}
use Rattle.trees.proofs.Rules.{to_balanced}
use Rattle.trees.proofs.Heights.{low_height}
use Rattle.trees.proofs.Maps.{put_sets}
use Rattle.memory.specs.Memory.{Memory}
use Rattle.memory.specs.Steps.{with_reg}
use Rattle.memory.proofs.Numbers.{put_same}
use Rattle.memory.proofs.By.{ends_then, ends_all, by_load}
use Rattle.stored.specs.Stored.{colour}
use Rattle.stored.specs.Writes.{resave_of}
use Rattle.stored.specs.Becomes.{cost, Ready}
use Rattle.stored.specs.Whole.{Whole}
use Rattle.stored.proofs.Parts.{of-with_mark}
use Rattle.stored.proofs.Changes.{in_turn, by_mark}
use Rattle.stored.proofs.Wholes.{none_of, ready_first, once_first, fresh_name, prepared, save_ends, size_made}
use Rattle.map_steps.specs.Insert.{insert_of, add_of}
use Rattle.map_steps.specs.Theorems.{AddInserts}
use Rattle.map_steps.proofs.InsertCosts.{insert_cost, insert_links, insert_numbers, insert_node}
use Rattle.map_steps.proofs.Inserts.{Inserts, insert_ends}

almost_node : (t : Tree Bool ℕ) → AlmostBalanced t → is_node t ≡ true
almost_node leaf h = absurd h
almost_node (node n c e l r) h = refl

pub add_ends : AddInserts
unfolding add_of
add_ends before sooner o k v m t a b S room free absent =
    by_load _ _ 0 0 m (root_of t) (omega arith) (omega arith) W.first
    (ends_then (insert_of (before k) k v 25 0 m₁) _ (λ _ m₂. Inserts before k v m₁ m₂ 0 t) _
    (insert_ends before k v 25 m₁ 0 t R (once_first W) (fresh_name W) B (omega (arith, tall)) (omega (arith, tall)) (omega (arith, room.changes, tall)) free)
    (λ _ m₂ I.
    let R₂ : Ready colour m₂ 0 u = record {
      reg = I.reg;
      stored = I.stored;
      distinct = λ i. let z = ut i in let w = R.distinct i in let f = new in grind (arith, nat_tests);
      within = λ i p. let z = ut i in let w = R.within i in let q = I.made in let y = co in grind (arith, nat_tests);
      counted = λ i. omega (arith, R.counted i, I.named i);
      may = I.writable ∙ room.writable;
    } in
    by_mark colour _ _ m₂ 0 (omega arith) false u nu R₂ (omega (arith, I.linked, I.numbered, I.change_limit, room.changes, cl, cn, tall)) (λ m₃ G₃ V₃.
    let V = in_turn colour m₁ m₂ m₃ 0 t u u' (insert_cost before k v n t) (cost 0 1 0) (λ i w z. let y = ut i in grind (arith, nat_tests)) I V₃ in
    let mk : m₃.made ≡ suc n = omega (arith, V.made, co) in
    ends_all (resave_of 0 0 m₃) _ _
    (save_ends (omega arith) (λ q. omega arith) (λ q. omega arith) W
    (prepared W refl refl V
    (λ i p. let z = ut' i in grind (arith, nat_tests))
    (λ i p. let z = ut' i in let w = high i p in grind (arith, nat_tests))
    (λ i p. let z = ut' i in let w = R.within i in grind (arith, nat_tests))
    (λ i p q. let z = ut' i in let same : i ≡ n = omega arith in grind (arith, nat_tests))
    (λ i x s p q z. let y = ut' i in absurd (omega arith)))
    V.reg (record { writable = V.writable ∙ room.writable; left = omega (arith, V.linked, V.numbered, V.change_limit, room.changes, cl, cn, tall) }))
    (λ _ m₄ F.
    let P = F.1 in
    record {
      stands = record { whole = rw absent F.0; map_tree = (put_sets ℕ before o k v n t S.map_tree).map; due_heap = S.due_heap; held_heap = S.held_heap };
      spent = record {
        linked = omega (arith, P.linked, V.linked, cl, tall);
        numbered = omega (arith, P.numbered, V.numbered, cn, tall);
        changed = omega (arith, P.linked, P.numbered, V.linked, V.numbered, cl, cn, tall);
        made = omega (arith, P.made, mk);
        node_limit = P.node_limit ∙ V.node_limit;
        change_limit = P.change_limit ∙ V.change_limit;
        writable = P.writable ∙ V.writable;
        rest = P.rest ∙ V.rest;
      };
    }))))
  where
    W : Whole m t a b
    W = S.whole

    n : ℕ
    n = m.made

    m₁ : Memory
    m₁ = with_reg m 0 (root_of t)

    R : Ready colour m₁ 0 t
    R = ready_first W m₁ 0 refl refl (put_same m.regs 0 (root_of t)) room.writable

    B : Balanced t
    B = to_balanced t S.map_tree.red_black

    tall : height t ≤ 24
    tall = low_height t B S.map_tree.red_black.black_root (omega (arith, size_made W, room.nodes))

    u : Tree Bool ℕ
    u = inserted before k v n t

    u' : Tree Bool ℕ
    u' = with_mark false u

    nu : is_node u ≡ true
    nu = almost_node u (grows before k v n t B).almost

    ut : (i : ℕ) → occurrences i u ≡ occurrences i t + cond (eqb i n) 1 0
    ut i = inserted_sum before k v (λ j f. cond (eqb i j) 1 0) n t

    ut' : (i : ℕ) → occurrences i u' ≡ occurrences i t + cond (eqb i n) 1 0
    ut' i = of-with_mark i false u ∙ ut i

    high : (i : ℕ) → n ≤ i → occurrences i t ≡ 0
    high i p = none_of (occurrences i t) (λ q. let w = R.within i q in omega arith)

    new : occurrences n t ≡ 0
    new = high n (omega arith)

    cl : (insert_cost before k v n t).links ≤ 4 * height t + 3
    cl = insert_links before k v n t B

    cn : (insert_cost before k v n t).numbers ≤ 2 * height t + 2
    cn = insert_numbers before k v n t B

    co : (insert_cost before k v n t).nodes ≡ 1
    co = insert_node before k v n t B
