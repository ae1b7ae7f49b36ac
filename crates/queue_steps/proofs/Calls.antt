-- The calls of the queues on the whole working state.
use Rattle.std.proofs.Common.{◌≡◌, ℕ, Bool, Some, None, refl, ap, arith}
use Rattle.trees.specs.Trees.{Tree, leaf, node}
use Rattle.trees.proofs.Heaps.{push_adds}
use Rattle.trees.proofs.Heaps.{pop_takes as taken}
use Rattle.memory.specs.Memory.{Memory}
use Rattle.memory.specs.Steps.{with_reg}
use Rattle.memory.specs.Effects.{Ends}
use Rattle.memory.proofs.Numbers.{put_same}
use Rattle.memory.proofs.By.{ends_all, by_load, by_nil, by_key}
use Rattle.stored.specs.Whole.{Stands, Untouched}
use Rattle.stored.proofs.Wholes.{swapped, turned, untouched, untouched_after}
use Rattle.queue_steps.specs.Queues.{push_of, pop_of, top_of}
use Rattle.queue_steps.specs.Theorems.{PushJoins, PopTakes, TopAnswersHold}
use Rattle.queue_steps.proofs.Pushes.{push_ends}
use Rattle.queue_steps.proofs.Pops.{pop_ends}

pub push_joins : PushJoins
push_joins before sooner o k m map due held S room free small = record {
  to_due = ends_all (push_of sooner 1 k m) _ _ (push_ends sooner k m due map held (omega arith) (λ q. omega arith) (λ q. omega arith) (swapped S.whole) S.due_heap room free small)
      (λ _ m' F. record { stands = record { whole = swapped F.0; map_tree = S.map_tree; due_heap = (push_adds ℕ sooner o m.made k due S.due_heap).heap; held_heap = S.held_heap }; spent = F.1 });
  to_held = ends_all (push_of sooner 2 k m) _ _ (push_ends sooner k m held map due (omega arith) (λ q. omega arith) (λ q. omega arith) (turned S.whole) S.held_heap room free small)
      (λ _ m' F. record { stands = record { whole = turned (turned F.0); map_tree = S.map_tree; due_heap = S.due_heap; held_heap = (push_adds ℕ sooner o m.made k held S.held_heap).heap }; spent = F.1 });
}

empty_ends : (before sooner : ℕ → ℕ → Bool) (m : Memory) (map : Tree Bool ℕ) (held : Tree ℕ ℕ) → Stands before sooner m map leaf held → Ends (pop_of sooner 1 m) (λ k m'. (k ≡ None) × Untouched m m')
unfolding pop_of
empty_ends before sooner m map held S =
    by_load _ _ 1 0 m None (omega arith) (omega arith) S.whole.second
    (by_nil _ _ 0 None (with_reg m 0 None) (omega arith) (put_same m.regs 0 None) (refl, untouched_after m (with_reg m 0 None) 0 None (untouched (with_reg m 0 None))))

pub pop_takes : PopTakes
pop_takes before sooner o m map leaf held S room nil = empty_ends before sooner m map held S
pop_takes before sooner o m map (node n c e l r) held S room nil =
    ends_all (pop_of sooner 1 m) _ _ (pop_ends sooner m n c e l r map held (omega arith) (λ q. omega arith) (λ q. omega arith) (swapped S.whole) S.due_heap.leftist room nil)
    (λ k m' F. (F.0, record { stands = record { whole = swapped F.1; map_tree = S.map_tree; due_heap = (taken ℕ sooner o n c e l r S.due_heap).heap; held_heap = S.held_heap }; spent = F.2 }))

pub top_answers : TopAnswersHold
unfolding top_of
top_answers before sooner m map leaf held S =
    by_load _ _ 1 0 m None (omega arith) (omega arith) S.whole.second
    (by_nil _ _ 0 None (with_reg m 0 None) (omega arith) (put_same m.regs 0 None) (refl, untouched_after m (with_reg m 0 None) 0 None (untouched (with_reg m 0 None))))
top_answers before sooner m map (node n c e l r) held S =
    let N = S.whole.stored_second.0 in
    let m₁ = with_reg m 0 (Some n) in
    by_load _ _ 1 0 m (Some n) (omega arith) (omega arith) S.whole.second
    (by_nil _ _ 0 (Some n) m₁ (omega arith) (put_same m.regs 0 (Some n))
    (by_key _ _ 0 n N.it m₁ (record { low = omega arith; names = put_same m.regs 0 (Some n); node = N.there })
    (ap Some N.key, untouched_after m m₁ 0 (Some n) (untouched m₁))))
