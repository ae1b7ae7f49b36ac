-- A job joins the heap of a root.
use Rattle.std.proofs.Common.{◌≡◌, ℕ, ◌+◌, ◌*◌, ◌<◌, ◌≤◌, Bool, cond, eqb, Some, sym, refl, ap, ◌∙◌, subst, arith}
use Rattle.std.proofs.lemmas.Bool.Decides.{nat_tests}
use Rattle.trees.specs.Trees.{Tree, root_of, occurrences, size}
use Rattle.trees.specs.Leftist.{merged}
use Rattle.trees.specs.Theorems.{Heap, single, pushed}
use Rattle.trees.proofs.Heaps.{merged_sum, merge_enough, single_heap}
use Rattle.trees.proofs.Heights.{low_rank}
use Rattle.memory.specs.Memory.{Memory, put, new_node}
use Rattle.memory.specs.Steps.{with_reg, born}
use Rattle.memory.specs.Effects.{Ends}
use Rattle.memory.proofs.Numbers.{put_same, put_other}
use Rattle.memory.proofs.By.{ends_then, ends_all, by_load, by_make}
use Rattle.stored.specs.Stored.{as_rank, inside}
use Rattle.stored.specs.Writes.{resave_of}
use Rattle.stored.specs.Becomes.{cost, Shifts}
use Rattle.stored.specs.Whole.{Trees, Room, Spent}
use Rattle.stored.proofs.Parts.{self, hits_root, keep}
use Rattle.stored.proofs.Wholes.{none_of, save_ends, size_made}
use Rattle.queue_steps.specs.Merge.{merge_of}
use Rattle.queue_steps.specs.Queues.{push_of}
use Rattle.queue_steps.specs.Theorems.{Pair}
use Rattle.queue_steps.proofs.Merges.{merge_ends}

pub push_ends : {N P : Type 0} {g : N → ℕ} {h : P → ℕ} {j j₁ j₂ : ℕ} (before : ℕ → ℕ → Bool) (k : ℕ) (m : Memory) (a : Tree ℕ ℕ) (u : Tree N ℕ) (v : Tree P ℕ) → j < 3 → (j ≡ j₁ → ⊥) → (j ≡ j₂ → ⊥) → Trees as_rank g h j j₁ j₂ m a u v → Heap before a → Room m → m.made < m.node_limit → m.node_limit ≤ 4096
    → Ends (push_of before j k m) (λ _ m'. Trees as_rank g h j j₁ j₂ m' (pushed before m.made k a) u v × Spent m m' 1)
unfolding push_of
push_ends {g = g} {h = h} {j = j} {j₁ = j₁} {j₂ = j₂} before k m a u v lj ij ik W H room free small =
    let n = m.made in
    let new = single before n k in
    let t = merged before 25 a new in
    let x = new_node k 0 1 in
    let m₁ = with_reg m 0 (root_of a) in
    let m₂ = born m₁ 39 x in
    let la = H.leftist in
    let ln = (single_heap before n k).leftist in
    let few : size a ≤ n = omega (arith, size_made W) in
    let ra = low_rank ℕ a la (omega arith) in
    let none : occurrences n a + occurrences n u + occurrences n v ≡ 0 = none_of _ (λ p. let w = W.within n p in omega arith) in
    let same : (i : ℕ) → i < n → m₂.state.nodes i ≡ m.state.nodes i = λ i p. put_other m.state.nodes n i (Some x) (omega arith) in
    let not_new : (i : ℕ) → i < n → cond {A = ℕ} (eqb i n) 1 0 ≡ 0 = λ i p. grind (arith, nat_tests) in
    let P : Pair m₂ 0 a new = record {
      reg = put_other (put m.regs 0 (root_of a)) 39 0 (Some n) (omega arith) ∙ put_same m.regs 0 (root_of a);
      aside = put_same (put m.regs 0 (root_of a)) 39 (Some n);
      stored = keep as_rank m.state.nodes m₂.state.nodes a (λ i p. same i (W.within i (omega arith))) W.stored_first;
      beside = (record { it = x; there = put_same m.state.nodes n (Some x); key = refl; value = refl; mark = refl; near = refl; far = refl }, tt, tt);
      distinct = λ i. let d = W.distinct i in let f = none in grind (arith, nat_tests);
      within = λ i p. let w = W.within i in grind (arith, nat_tests);
      counted = λ i. omega (arith, W.named i, hits_root i a);
      once = λ i p. omega (arith, W.named i, W.distinct i);
      may = room.writable;
    } in
    let sum : (i : ℕ) → occurrences i t ≡ occurrences i a + cond (eqb i n) 1 0 = λ i. omega (arith, merged_sum before (λ q e. cond (eqb i q) 1 0) 25 a new la ln (omega arith)) in
    by_load _ _ j 0 m (root_of a) lj (omega arith) W.first
    (by_make _ _ 39 k 0 1 m₁ (omega arith) room.writable free
    (ends_then (merge_of before 25 0 m₂) _ (λ _ m₃. Shifts as_rank m₂ m₃ 0 (λ i. occurrences i a + occurrences i new) (λ i. inside i a + inside i new) t (cost (2 * 25) 25 0)) _
    (merge_ends before 25 m₂ 0 a new P la ln (omega arith) (omega arith) (omega arith) (omega (arith, room.changes)))
    (λ _ m₃ V.
    ends_all (resave_of j 0 m₃) _ _
    (save_ends lj ij ik W (record {
      stored = V.stored;
      others = λ i p. let w = W.within i (omega arith) in let y = not_new i w in V.others i (omega (arith, W.distinct i)) (omega arith) ∙ same i w;
      roots = V.roots;
      distinct = λ i. let d = W.distinct i in let f = none in let z = sum i in grind (arith, nat_tests);
      within = λ i p. let w = W.within i in let z = sum i in let q = V.made in grind (arith, nat_tests);
      named = λ i. omega (arith, V.named i, W.named i, hits_root i a);
      bare = λ i y s p z e.
          let ne : n ≡ i → ⊥ = λ q. (let w : cond {A = ℕ} (eqb i n) 1 0 ≡ 1 = ap (λ (o : ℕ). cond {A = ℕ} (eqb o n) 1 0) (sym q) ∙ self n in omega (arith, sum i)) in
          let less : i < n = omega (arith, V.made) in
          W.bare i y s less (omega (arith, sum i)) (sym (same i less) ∙ sym (V.others i (omega (arith, sum i)) (omega arith)) ∙ e);
    })
    V.reg (record { writable = V.writable ∙ room.writable; left = omega (arith, V.linked, V.numbered, V.change_limit, room.changes) }))
    (λ _ m₄ F.
    let S = F.1 in (
      subst (λ (z : Tree ℕ ℕ). Trees as_rank g h j j₁ j₂ m₄ z u v) (merge_enough before 25 a new la ln (omega arith)) F.0,
      record {
        linked = omega (arith, S.linked, V.linked);
        numbered = omega (arith, S.numbered, V.numbered);
        changed = omega (arith, S.linked, S.numbered, V.linked, V.numbered);
        made = omega (arith, S.made, V.made);
        node_limit = S.node_limit ∙ V.node_limit;
        change_limit = S.change_limit ∙ V.change_limit;
        writable = S.writable ∙ V.writable;
        rest = S.rest ∙ V.rest;
      },
    )))))
