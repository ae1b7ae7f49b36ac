-- What the queues' rows of steps do to the heaps under their registers, and to the whole working state.
--
--   Pair             two heaps that share no node, one under a register and one under register 39
--   MergeSteps       the steps of `merge_of` leave the merged heap
--   PushJoins        a job joins due, or held
--   PopTakes         the first due job goes; an empty queue is answered, with nothing written
--   TopAnswersHold   the key of the first due job is answered
--   ReleaseMerges    the held jobs become due
use Rattle.std.specs.Prelude.{◌≡◌, ℕ, ◌+◌, ◌*◌, ◌<◌, ◌≤◌, Bool, true, Some, None, Option}
use Rattle.trees.specs.Trees.{Tree, root_of, occurrences, size}
use Rattle.trees.specs.Leftist.{rank, Leftist, merged}
use Rattle.memory.specs.Memory.{Memory, changed}
use Rattle.memory.specs.Effects.{Ends}
use Rattle.stored.specs.Stored.{as_rank, Stored, inside}
use Rattle.stored.specs.Becomes.{cost, Shifts}
use Rattle.trees.specs.Trees.{leaf, node}
use Rattle.trees.specs.Lists.{KeyOrder}
use Rattle.trees.specs.Theorems.{merge, pushed, popped}
use Rattle.stored.specs.Whole.{Stands, Room, Spent, Untouched}
use Rattle.queue_steps.specs.Merge.{merge_of}
use Rattle.queue_steps.specs.Queues.{push_of, pop_of, top_of, release_of}

pub record Pair (m : Memory) (d : ℕ) (a b : Tree ℕ ℕ) : Type 0 where
  pub reg : m.regs d ≡ root_of a
  pub aside : m.regs 39 ≡ root_of b
  pub stored : Stored as_rank m.state.nodes a
  pub beside : Stored as_rank m.state.nodes b
  pub distinct : (i : ℕ) → occurrences i a + occurrences i b ≤ 1
  pub within : (i : ℕ) → 1 ≤ occurrences i a + occurrences i b → i < m.made
  pub counted : (i : ℕ) → inside i a + inside i b ≤ m.state.names i
  pub once : (i : ℕ) → 1 ≤ occurrences i a + occurrences i b → m.state.names i ≤ 1
  pub may : m.writable ≡ true

-- by at most two links and one number a level
abbrev pub MergeSteps : Type 0
MergeSteps = (before : ℕ → ℕ → Bool) (g : ℕ) (m : Memory) (d : ℕ) (a b : Tree ℕ ℕ) → Pair m d a b → Leftist a → Leftist b → size a + size b ≤ 4096 → rank a + rank b < g → rank a + rank b + d ≤ 24 → changed m + 3 * g ≤ m.change_limit
    → Ends (merge_of before g d m) (λ _ m'. Shifts as_rank m m' d (λ i. occurrences i a + occurrences i b) (λ i. inside i a + inside i b) (merged before g a b) (cost (2 * g) g 0))

module _ (before sooner : ℕ → ℕ → Bool) where
  -- the queues have become these heaps, the map is as before, and an update's worth was spent
  pub record QueuesAre (m m' : Memory) (map : Tree Bool ℕ) (due held : Tree ℕ ℕ) (nodes : ℕ) : Type 0 where
    pub stands : Stands before sooner m' map due held
    pub spent : Spent m m' nodes

  pub record Joins (k : ℕ) (m : Memory) (map : Tree Bool ℕ) (due held : Tree ℕ ℕ) : Type 0 where
    pub to_due : Ends (push_of sooner 1 k m) (λ _ m'. QueuesAre m m' map (pushed sooner m.made k due) held 1)
    pub to_held : Ends (push_of sooner 2 k m) (λ _ m'. QueuesAre m m' map due (pushed sooner m.made k held) 1)

  -- the key of the first due job, or nothing
  abbrev pub first_due : Tree ℕ ℕ → Option ℕ
  first_due leaf = None
  first_due (node n c e l r) = Some e.key

  -- what pop answers and leaves
  abbrev pub PopIs : Memory → Tree Bool ℕ → Tree ℕ ℕ → Tree ℕ ℕ → Memory → Type 0
  PopIs m map leaf held m' = Untouched m m'
  PopIs m map (node n c e l r) held m' = QueuesAre m m' map (popped sooner (node n c e l r)) held 0

-- the job's key is at the place k of the book
abbrev pub PushJoins : Type 0
PushJoins = (before sooner : ℕ → ℕ → Bool) → KeyOrder sooner → (k : ℕ) (m : Memory) (map : Tree Bool ℕ) (due held : Tree ℕ ℕ) → Stands before sooner m map due held → Room m → m.made < m.node_limit → m.node_limit ≤ 4096
    → Joins before sooner k m map due held

abbrev pub PopTakes : Type 0
PopTakes = (before sooner : ℕ → ℕ → Bool) → KeyOrder sooner → (m : Memory) (map : Tree Bool ℕ) (due held : Tree ℕ ℕ) → Stands before sooner m map due held → Room m → m.regs 35 ≡ None
    → Ends (pop_of sooner 1 m) (λ k m'. (k ≡ first_due before sooner due) × PopIs before sooner m map due held m')

abbrev pub TopAnswersHold : Type 0
TopAnswersHold = (before sooner : ℕ → ℕ → Bool) (m : Memory) (map : Tree Bool ℕ) (due held : Tree ℕ ℕ) → Stands before sooner m map due held
    → Ends (top_of 1 m) (λ k m'. (k ≡ first_due before sooner due) × Untouched m m')

abbrev pub ReleaseMerges : Type 0
ReleaseMerges = (before sooner : ℕ → ℕ → Bool) → KeyOrder sooner → (m : Memory) (map : Tree Bool ℕ) (due held : Tree ℕ ℕ) → Stands before sooner m map due held → Room m → m.regs 35 ≡ None
    → Ends (release_of sooner m) (λ _ m'. QueuesAre before sooner m m' map (merge sooner due held) leaf 0)
