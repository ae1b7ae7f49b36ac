-- What the map's rows of steps do to the whole working state.
--
--   AddInserts    the steps of `add_of` put a new key into the map
--   DropRemoves   the steps of `drop_of` take a key out of the map
--   SetReplaces   the steps of `set_of` replace the value of a key that is there, and write nothing where it is not
--   GetAnswers    the steps of `get_of` answer a key's value
--   NextAnswers   the steps of `next_of` answer the first entry above a key
use Rattle.std.specs.Prelude.{◌≡◌, ℕ, ◌<◌, ◌≤◌, Bool, true, false, None}
use Rattle.trees.specs.Trees.{Tree, entries}
use Rattle.trees.specs.Lists.{KeyOrder, list_get, list_next}
use Rattle.trees.specs.RedBlack.{holds}
use Rattle.trees.specs.Theorems.{put_tree, drop_tree}
use Rattle.memory.specs.Memory.{Memory}
use Rattle.memory.specs.Effects.{Ends}
use Rattle.stored.specs.Whole.{Stands, Room, Spent, Untouched}
use Rattle.map_steps.specs.Insert.{add_of}
use Rattle.map_steps.specs.Remove.{way_to, drop_of}
use Rattle.map_steps.specs.Find.{get_of, set_of, next_of}

module _ (before sooner : ℕ → ℕ → Bool) where
  -- the map has become this tree, both queues are as before, and an update's worth was spent
  pub record MapIs (m m' : Memory) (map : Tree Bool ℕ) (due held : Tree ℕ ℕ) (nodes : ℕ) : Type 0 where
    pub stands : Stands before sooner m' map due held
    pub spent : Spent m m' nodes

-- a key that is not there, at the place k of the book, gets the next node
abbrev pub AddInserts : Type 0
AddInserts = (before sooner : ℕ → ℕ → Bool) → KeyOrder before → (k v : ℕ) (m : Memory) (map : Tree Bool ℕ) (due held : Tree ℕ ℕ) → Stands before sooner m map due held → Room m → m.made < m.node_limit → holds before k map ≡ false
    → Ends (add_of (before k) k v m) (λ _ m'. MapIs before sooner m m' (put_tree before k v m.made map) due held 1)

-- a key that is there; register 35 is nil
abbrev pub DropRemoves : Type 0
DropRemoves = (before sooner : ℕ → ℕ → Bool) → KeyOrder before → (k : ℕ) (m : Memory) (map : Tree Bool ℕ) (due held : Tree ℕ ℕ) → Stands before sooner m map due held → Room m → m.regs 35 ≡ None → holds before k map ≡ true
    → Ends (drop_of (way_to before k) m) (λ _ m'. MapIs before sooner m m' (drop_tree before k map) due held 0)

-- the answer, and nothing but registers is changed
pub record Answers {A : Type 0} (m m' : Memory) (answer right : A) : Type 0 where
  pub is : answer ≡ right
  pub untouched : Untouched m m'

abbrev pub GetAnswers : Type 0
GetAnswers = (before sooner : ℕ → ℕ → Bool) → KeyOrder before → (k : ℕ) (m : Memory) (map : Tree Bool ℕ) (due held : Tree ℕ ℕ) → Stands before sooner m map due held → m.made ≤ 4096
    → Ends (get_of (way_to before k) m) (λ v m'. Answers m m' v (list_get before k (entries map)))

abbrev pub NextAnswers : Type 0
NextAnswers = (before sooner : ℕ → ℕ → Bool) → KeyOrder before → (k : ℕ) (m : Memory) (map : Tree Bool ℕ) (due held : Tree ℕ ℕ) → Stands before sooner m map due held → m.made ≤ 4096
    → Ends (next_of (before k) m) (λ e m'. Answers m m' e (list_next before k (entries map)))

abbrev pub SetReplaces : Type 0
SetReplaces = (before sooner : ℕ → ℕ → Bool) → KeyOrder before → (k v n : ℕ) (m : Memory) (map : Tree Bool ℕ) (due held : Tree ℕ ℕ) → Stands before sooner m map due held → Room m
    → Ends (set_of (way_to before k) v m) (λ there m'. (there ≡ holds before k map) × (there ≡ true → MapIs before sooner m m' (put_tree before k v n map) due held 0) × (there ≡ false → Untouched m m'))
