-- Jobs as places of a book that grows.
--
--   InBook          every job of a heap is a place below a number, such as the length of the book
--   QueuesOutlast   queues whose jobs are in the book stand as before when the book has more keys
--   Stay            the heaps that push, pop and release leave have their jobs in the book, too
--   JobsStay        they do, by every order of keys
use Rattle.std.specs.Prelude.{ℕ, ◌<◌, Bool, List, ◌++◌, length}
use Rattle.trees.specs.Trees.{Tree, leaf, node}
use Rattle.trees.specs.Lists.{KeyOrder}
use Rattle.trees.specs.Theorems.{Heap, merge, pushed, popped}
use Rattle.memory.specs.Memory.{Memory}
use Rattle.stored.specs.Whole.{Stands}
use Rattle.places.specs.Places.{place_first}

abbrev pub InBook : ℕ → Tree ℕ ℕ → Type 0
InBook n leaf = Unit {0}
InBook n (node i c e l r) = (e.key < n) × InBook n l × InBook n r

abbrev pub QueuesOutlast : Type 0 → Type 0
QueuesOutlast K = (first : K → K → Bool) (keys more : List K) (before : ℕ → ℕ → Bool) (m : Memory) (map : Tree Bool ℕ) (due held : Tree ℕ ℕ) → InBook (length keys) due → InBook (length keys) held
    → Stands before (place_first first keys) m map due held → Stands before (place_first first (keys ++ more)) m map due held × InBook (length (keys ++ more)) due × InBook (length (keys ++ more)) held

pub record Stay (sooner : ℕ → ℕ → Bool) (n : ℕ) : Type 0 where
  pub push : (i k : ℕ) (t : Tree ℕ ℕ) → Heap sooner t → k < n → InBook n t → InBook n (pushed sooner i k t)
  pub pop : (t : Tree ℕ ℕ) → Heap sooner t → InBook n t → InBook n (popped sooner t)
  pub release : (a b : Tree ℕ ℕ) → Heap sooner a → Heap sooner b → InBook n a → InBook n b → InBook n (merge sooner a b)

abbrev pub JobsStay : Type 0
JobsStay = (sooner : ℕ → ℕ → Bool) → KeyOrder sooner → (n : ℕ) → Stay sooner n
