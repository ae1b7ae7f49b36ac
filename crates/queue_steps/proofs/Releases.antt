-- The held jobs become due.
use Rattle.std.proofs.Common.{◌≡◌, ℕ, ◌+◌, ◌*◌, ◌<◌, cond, eqb, None, sym, ap, ◌∙◌, subst, arith}
use Rattle.trees.specs.Trees.{Tree, leaf, root_of, occurrences}
use Rattle.trees.specs.Leftist.{merged}
use Rattle.trees.proofs.Heaps.{merged_sum, merge_enough, merge_joins}
use Rattle.trees.proofs.Heights.{low_rank}
use Rattle.memory.specs.Memory.{put, hits}
use Rattle.memory.specs.Steps.{with_reg}
use Rattle.memory.proofs.Numbers.{put_same, put_other, hits_some, hits_one}
use Rattle.memory.proofs.By.{ends_then, ends_all, by_load}
use Rattle.stored.specs.Stored.{colour, as_rank, inside}
use Rattle.stored.specs.Writes.{resave_of, Resaved}
use Rattle.stored.specs.Becomes.{cost, Shifts}
use Rattle.stored.specs.Whole.{Whole}
use Rattle.stored.proofs.Parts.{no_node, hits_root, keep}
use Rattle.stored.proofs.Writing.{resave_ends}
use Rattle.stored.proofs.Wholes.{size_made}
use Rattle.queue_steps.specs.Merge.{merge_of}
use Rattle.queue_steps.specs.Queues.{release_of}
use Rattle.queue_steps.specs.Theorems.{Pair, ReleaseMerges}
use Rattle.queue_steps.proofs.Merges.{merge_ends}

pub release_merges : ReleaseMerges
unfolding release_of
release_merges before sooner o m t a b S room nil =
    let W = S.whole in
    let la = S.due_heap.leftist in
    let lb = S.held_heap.leftist in
    let u = merged sooner 25 a b in
    let m₁ = with_reg m 0 (root_of a) in
    let m₂ = with_reg m₁ 39 (root_of b) in
    let sizes = size_made W in
    let ra = low_rank ℕ a la (omega (arith, room.nodes)) in
    let rb = low_rank ℕ b lb (omega (arith, room.nodes)) in
    let sum : (i : ℕ) → occurrences i u ≡ occurrences i a + occurrences i b = λ i. merged_sum sooner (λ q y. cond (eqb i q) 1 0) 25 a b la lb (omega arith) in
    let P : Pair m₂ 0 a b = record {
      reg = put_other (put m.regs 0 (root_of a)) 39 0 (root_of b) (omega arith) ∙ put_same m.regs 0 (root_of a);
      aside = put_same (put m.regs 0 (root_of a)) 39 (root_of b);
      stored = W.stored_second;
      beside = W.stored_third;
      distinct = λ i. let d = W.distinct i in omega arith;
      within = λ i p. W.within i (omega arith);
      counted = λ i. omega (arith, W.named i, hits_root i a, hits_root i b);
      once = λ i p. let d = W.distinct i in let w = W.named i in omega arith;
      may = room.writable;
    } in
    by_load _ _ 1 0 m (root_of a) (omega arith) (omega arith) W.second
    (by_load _ _ 2 39 m₁ (root_of b) (omega arith) (omega arith) W.third
    (ends_then (merge_of sooner 25 0 m₂) _ (λ _ m₃. Shifts as_rank m₂ m₃ 0 (λ i. occurrences i a + occurrences i b) (λ i. inside i a + inside i b) u (cost (2 * 25) 25 0)) _
    (merge_ends sooner 25 m₂ 0 a b P la lb (omega (arith, room.nodes)) (omega arith) (omega arith) (omega (arith, room.changes)))
    (λ _ m₃ V.
    let n₃ : (i : ℕ) → m₃.state.names i ≡ occurrences i t + hits i (root_of a) + hits i (root_of b) + inside i u = λ i. omega (arith, V.named i, W.named i, hits_root i a, hits_root i b) in
    let r₁ : (i : ℕ) → hits i (m₃.state.roots 1) ≡ hits i (root_of a) = λ i. ap (hits i) (V.roots 1 ∙ W.second) in
    ends_then (resave_of 1 0 m₃) _ (λ _ m₄. Resaved m₃ m₄ 1 (root_of u)) _
    (resave_ends m₃ 1 0 (root_of u) (omega arith) (omega arith) (λ q. omega arith) (record { writable = V.writable ∙ room.writable; left = omega (arith, V.linked, V.numbered, V.change_limit, room.changes) }) V.reg
    (λ i. omega (arith, n₃ i, r₁ i))
    (λ i q. let h = hits_some i (root_of u) q in let d = W.distinct i in omega (arith, n₃ i, r₁ i, hits_root i u, sum i, hits_one i (root_of b))))
    (λ _ m₄ E₄.
    let S₄ = E₄.spends in
    let n₄ : (i : ℕ) → m₄.state.names i ≡ occurrences i t + hits i (root_of b) + occurrences i u = λ i. omega (arith, E₄.named i, n₃ i, r₁ i, hits_root i u) in
    let r₂ : (i : ℕ) → hits i (m₄.state.roots 2) ≡ hits i (root_of b) = λ i. ap (hits i) (E₄.else 2 (λ q. omega arith) ∙ V.roots 2 ∙ W.third) in
    ends_all (resave_of 2 35 m₄) _ _
    (resave_ends m₄ 2 35 None (omega arith) (omega arith) (λ q. omega arith) (record { writable = S₄.writable ∙ V.writable ∙ room.writable; left = omega (arith, V.linked, V.numbered, V.change_limit, S₄.linked, S₄.numbered, S₄.change_limit, room.changes) })
    (S₄.regs 35 (omega arith) ∙ V.still 35 (omega arith) (omega arith) ∙ put_other (put m.regs 0 (root_of a)) 39 35 (root_of b) (omega arith) ∙ put_other m.regs 0 35 (root_of a) (omega arith) ∙ nil)
    (λ i. omega (arith, n₄ i, r₂ i)) (λ i q. no_node q))
    (λ _ m₅ E₅.
    let S₅ = E₅.spends in
    let nodes : (i : ℕ) → m₅.state.nodes i ≡ m₃.state.nodes i = λ i. E₅.nodes i ∙ E₄.nodes i in
    let whole : Whole m₅ t u leaf = record {
      first = E₅.else 0 (λ q. omega arith) ∙ E₄.else 0 (λ q. omega arith) ∙ V.roots 0 ∙ W.first;
      second = E₅.else 1 (λ q. omega arith) ∙ E₄.here;
      third = E₅.here;
      stored_first = keep colour m.state.nodes m₅.state.nodes t (λ i p. nodes i ∙ V.others i (let d = W.distinct i in omega arith) (W.within i (omega arith))) W.stored_first;
      stored_second = keep as_rank m₃.state.nodes m₅.state.nodes u (λ i _. nodes i) V.stored;
      stored_third = tt;
      distinct = λ i. omega (arith, W.distinct i, sum i);
      within = λ i p. let w = W.within i (omega (arith, sum i)) in omega (arith, V.made, S₄.made, S₅.made);
      named = λ i. omega (arith, E₅.named i, n₄ i, r₂ i);
      bare = λ i x s p z e. let less : i < m.made = omega (arith, V.made, S₄.made, S₅.made) in W.bare i x s less (omega (arith, sum i)) (sym (nodes i ∙ V.others i (omega (arith, sum i)) less) ∙ e);
    } in
    record {
      stands = record {
        whole = subst (λ (z : Tree ℕ ℕ). Whole m₅ t z leaf) (merge_enough sooner 25 a b la lb (omega arith)) whole;
        map_tree = S.map_tree;
        due_heap = (merge_joins ℕ sooner o a b S.due_heap S.held_heap).heap;
        held_heap = record { leftist = tt; ordered = tt };
      };
      spent = record {
        linked = omega (arith, S₅.linked, S₄.linked, V.linked);
        numbered = omega (arith, S₅.numbered, S₄.numbered, V.numbered);
        changed = omega (arith, S₅.linked, S₄.linked, V.linked, S₅.numbered, S₄.numbered, V.numbered);
        made = omega (arith, S₅.made, S₄.made, V.made);
        node_limit = S₅.node_limit ∙ S₄.node_limit ∙ V.node_limit;
        change_limit = S₅.change_limit ∙ S₄.change_limit ∙ V.change_limit;
        writable = S₅.writable ∙ S₄.writable ∙ V.writable;
        rest = S₅.rest ∙ S₄.rest ∙ V.rest;
      };
    })))))
