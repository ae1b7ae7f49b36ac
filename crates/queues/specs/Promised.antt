-- What the calls of the queues promise, of every abstract memory m that the concrete memory s means before a call: the call is accepted,
-- and the memory t after it means an abstract memory in which the queues are what the rules say. A job is the place k of its key in
-- the book, and sooner is the order of places; before is the order of the map's keys.
--
--   Accepted                              a call was accepted: its answer, and what the memory then means
--   PopLeaves                             what pop answers and leaves
--   Roomy                                 a job can be added
--   Ready                                 a job can be taken out, or all held ones moved
--   TopAnswers                            what top answers
--   Pushes, Holds, Pops, Tops, Releases   the promises of the five calls
use Rattle.std.specs.Prelude.{◌≡◌, ℕ, ◌<◌, ◌≤◌, Bool, Some, None, Ok, Option, Result}
use Rattle.refusals.specs.declared.kinds.MemoryRefusal.{MemoryRefusal}
use Rattle.trees.specs.Trees.{Tree, leaf, node}
use Rattle.trees.specs.Lists.{KeyOrder}
use Rattle.trees.specs.Leftist.{NoneBefore}
use Rattle.trees.specs.Theorems.{merge, pushed, popped, MergedOf, PushedTo, PoppedFrom}
use Rattle.memory.specs.Memory.{Memory}
use Rattle.stored.specs.Whole.{Stands, Room, Untouched}
use Rattle.queue_steps.specs.Theorems.{QueuesAre}

-- the result r is accepted with an answer, and the memory t, which meant m before, means one of which Q holds
pub record Accepted {S A : Type 0} (P : S → Memory → Type 0) (m : Memory) (t : S) (r : Result A MemoryRefusal) (Q : A → Memory → Type 0) : Type 0 where
  pub answer : A
  pub after : Memory
  pub ok : r ≡ Ok answer
  pub means : P t after
  pub holds : Q answer after
  -- register 35 is as it was
  pub still : after.regs 35 ≡ m.regs 35

-- what pop answers and leaves: nothing, with nothing written, or the first due job, which is then gone
abbrev pub PopLeaves : (ℕ → ℕ → Bool) → (ℕ → ℕ → Bool) → Memory → Tree Bool ℕ → Tree ℕ ℕ → Tree ℕ ℕ → Option ℕ → Memory → Type 0
PopLeaves before sooner m map leaf held k m' = (k ≡ None) × Untouched m m'
PopLeaves before sooner m map (node n c e l r) held k m' =
    (k ≡ Some e.key) × QueuesAre before sooner m m' map (popped sooner (node n c e l r)) held 0 × PoppedFrom sooner n e.key (node n c e l r) (popped sooner (node n c e l r))

-- a job can be added: an update may be made, and a node is free
pub record Roomy (m : Memory) : Type 0 where
  pub room : Room m
  pub free : m.made < m.node_limit
  -- no memory has more nodes than this
  pub few : m.node_limit ≤ 4096

-- a job can be taken out, or all held ones moved: an update may be made, and register 35 is nil, as all registers are after enter
pub record Ready (m : Memory) : Type 0 where
  pub room : Room m
  pub nil : m.regs 35 ≡ None

module _ {S : Type 0} (P : S → Memory → Type 0) (s t : S) (sooner : ℕ → ℕ → Bool) where
  -- the job k becomes due, as a new node; the map and held are as before
  abbrev pub Pushes : ℕ → Result Unit MemoryRefusal → Type 0
  Pushes k r = (before : ℕ → ℕ → Bool) (m : Memory) (map : Tree Bool ℕ) (due held : Tree ℕ ℕ) → P s m → Stands before sooner m map due held → Roomy m
      → Accepted P m t r (λ _ m'. QueuesAre before sooner m m' map (pushed sooner m.made k due) held 1 × PushedTo sooner m.made k due (pushed sooner m.made k due))

  -- the job k is held, as a new node; the map and due are as before
  abbrev pub Holds : ℕ → Result Unit MemoryRefusal → Type 0
  Holds k r = (before : ℕ → ℕ → Bool) (m : Memory) (map : Tree Bool ℕ) (due held : Tree ℕ ℕ) → P s m → Stands before sooner m map due held → Roomy m
      → Accepted P m t r (λ _ m'. QueuesAre before sooner m m' map due (pushed sooner m.made k held) 1 × PushedTo sooner m.made k held (pushed sooner m.made k held))

  -- the first due job goes; the map and held are as before
  abbrev pub Pops : Result (Option ℕ) MemoryRefusal → Type 0
  Pops r = (before : ℕ → ℕ → Bool) (m : Memory) (map : Tree Bool ℕ) (due held : Tree ℕ ℕ) → P s m → Stands before sooner m map due held → Ready m
      → Accepted P m t r (λ k m'. PopLeaves before sooner m map due held k m')

  -- the held jobs become due, and none is held; the map is as before
  abbrev pub Releases : Result Unit MemoryRefusal → Type 0
  Releases r = (before : ℕ → ℕ → Bool) (m : Memory) (map : Tree Bool ℕ) (due held : Tree ℕ ℕ) → P s m → Stands before sooner m map due held → Ready m
      → Accepted P m t r (λ _ m'. QueuesAre before sooner m m' map (merge sooner due held) leaf 0 × MergedOf sooner due held (merge sooner due held))

-- what top answers: nothing, or a due job that no other goes before; nothing but registers is changed
abbrev pub TopAnswers : (ℕ → ℕ → Bool) → Memory → Tree ℕ ℕ → Option ℕ → Memory → Type 0
TopAnswers sooner m leaf k m' = (k ≡ None) × Untouched m m'
TopAnswers sooner m (node n c e l r) k m' = (k ≡ Some e.key) × NoneBefore sooner e.key (node n c e l r) × Untouched m m'

-- by whatever order the heaps have
abbrev pub Tops : {S : Type 0} → (S → Memory → Type 0) → S → S → Result (Option ℕ) MemoryRefusal → Type 0
Tops P s t r = (before sooner : ℕ → ℕ → Bool) → KeyOrder sooner → (m : Memory) (map : Tree Bool ℕ) (due held : Tree ℕ ℕ) → P s m → Stands before sooner m map due held
    → Accepted P m t r (λ k m'. TopAnswers sooner m due k m')
