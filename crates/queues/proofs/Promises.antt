-- The promises of the five calls, from their rows of steps and what those come to.
use Rattle.std.proofs.Common.{◌≡◌, ℕ, Bool, List, Option, Result}
use Rattle.refusals.specs.declared.kinds.MemoryRefusal.{MemoryRefusal}
use Rattle.trees.specs.Trees.{leaf, node}
use Rattle.trees.specs.Lists.{KeyOrder}
use Rattle.trees.proofs.Heaps.{push_adds, merge_joins}
use Rattle.trees.proofs.Heaps.{pop_takes as taken}
use Rattle.memory.specs.Memory.{Memory}
use Rattle.memory.specs.Steps.{Done, done, no}
use Rattle.memory.specs.Effects.{Ends}
use Rattle.memory.specs.Promises.{Comes, Runs}
use Rattle.memory.proofs.Rows.{comes_to_end}
use Rattle.memory.proofs.By.{ends_all}
use Rattle.places.specs.Places.{place_first, KeyLaws}
use Rattle.places.proofs.Orders.{places_ordered}
use Rattle.queue_steps.specs.Queues.{push_of, pop_of, top_of, release_of}
use Rattle.queue_steps.proofs.Calls.{push_joins, pop_takes, top_answers}
use Rattle.queue_steps.proofs.Releases.{release_merges}
use Rattle.queue_registers.specs.Registers.{Keeps}
use Rattle.queue_registers.proofs.Rows.{nil_stays}
use Rattle.queues.specs.Promised.{Accepted, Pushes, Holds, Pops, Tops, Releases}

-- what holds at the end of a row, and register 35
ends_with : {A : Type 0} {x : Option ℕ} (d : Done A) (Q : A → Memory → Type 0) → Ends d Q → Keeps x d → Ends d (λ a m'. Q a m' × (m'.regs 35 ≡ x))
ends_with (done a m) Q h k = (h, k.is)
ends_with (no e) Q h k = absurd h

-- a row of calls whose steps are accepted
accepted : {S A : Type 0} {P : S → Memory → Type 0} {t : S} {r : Result A MemoryRefusal} (m : Memory) (d : Done A) (Q : A → Memory → Type 0) → Comes P t r d → Keeps (m.regs 35) d → Ends d Q → Accepted P m t r Q
accepted m d Q c k h = let w = comes_to_end d (λ a m'. Q a m' × (m'.regs 35 ≡ m.regs 35)) c (ends_with d Q h k) in record { answer = w.0; after = w.1; ok = w.2; means = w.3; holds = w.4.0; still = w.4.1 }

-- the places of a book are ordered as their keys are
pub ordered : {K : Type 0} (first : K → K → Bool) → KeyLaws first → (keys : List K) → KeyOrder (place_first first keys)
ordered {K = K} first laws keys = (places_ordered K first laws keys).0

module _ {S : Type 0} {P : S → Memory → Type 0} {s t : S} (sooner : ℕ → ℕ → Bool) (o : KeyOrder sooner) where
  pub pushes : {r : Result Unit MemoryRefusal} (k : ℕ) → Runs P s t r (push_of sooner 1 k) → Pushes P s t sooner k r
  pushes k run before m map due held h S R =
      accepted m _ _ (run m h) ((nil_stays sooner m).push 1 k) (ends_all (push_of sooner 1 k m) _ _ (push_joins before sooner o k m map due held S R.room R.free R.few).to_due
      (λ _ m' F. (F, push_adds ℕ sooner o m.made k due S.due_heap)))

  pub holds : {r : Result Unit MemoryRefusal} (k : ℕ) → Runs P s t r (push_of sooner 2 k) → Holds P s t sooner k r
  holds k run before m map due held h S R =
      accepted m _ _ (run m h) ((nil_stays sooner m).push 2 k) (ends_all (push_of sooner 2 k m) _ _ (push_joins before sooner o k m map due held S R.room R.free R.few).to_held
      (λ _ m' F. (F, push_adds ℕ sooner o m.made k held S.held_heap)))

  pub pops : {r : Result (Option ℕ) MemoryRefusal} → Runs P s t r (pop_of sooner 1) → Pops P s t sooner r
  pops run before m map leaf held h S R = accepted m _ _ (run m h) (nil_stays sooner m).pop (pop_takes before sooner o m map leaf held S R.room R.nil)
  pops run before m map (node n c e l r) held h S R =
      accepted m _ _ (run m h) (nil_stays sooner m).pop (ends_all (pop_of sooner 1 m) _ _ (pop_takes before sooner o m map (node n c e l r) held S R.room R.nil)
      (λ k m' F. (F.0, F.1, taken ℕ sooner o n c e l r S.due_heap)))

  pub releases : {r : Result Unit MemoryRefusal} → Runs P s t r (release_of sooner) → Releases P s t sooner r
  releases run before m map due held h S R =
      accepted m _ _ (run m h) (nil_stays sooner m).release (ends_all (release_of sooner m) _ _ (release_merges before sooner o m map due held S R.room R.nil)
      (λ _ m' F. (F, merge_joins ℕ sooner o due held S.due_heap S.held_heap)))

pub tops : {S : Type 0} {P : S → Memory → Type 0} {s t : S} {r : Result (Option ℕ) MemoryRefusal} → Runs P s t r (top_of 1) → Tops P s t r
tops run before sooner o m map leaf held h S = accepted m _ _ (run m h) (nil_stays sooner m).top (top_answers before sooner m map leaf held S)
tops run before sooner o m map (node n c e l r) held h S =
    accepted m _ _ (run m h) (nil_stays sooner m).top (ends_all (top_of 1 m) _ _ (top_answers before sooner m map (node n c e l r) held S)
    (λ k m' F. (F.0, (taken ℕ sooner o n c e l r S.due_heap).first, F.1)))
