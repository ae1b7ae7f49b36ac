-- What a drop does to the whole working state, in terms of the map and the book of its keys.
--
--   Dropped   done: the map is without the key, both queues are as before, and an update's worth was spent
--   Drops     it is so from every abstract memory that the concrete one means, where the key is in the map and an update may be made
use Rattle.std.specs.Prelude.{◌≡◌, ℕ, Bool, true, List, Some, None, Ok, Result}
use Rattle.std.specs.List.{slice_get}
use Rattle.refusals.specs.declared.kinds.MemoryRefusal.{MemoryRefusal}
use Rattle.trees.specs.Trees.{Tree}
use Rattle.trees.specs.RedBlack.{holds}
use Rattle.trees.specs.Theorems.{drop_tree}
use Rattle.memory.specs.Memory.{Memory}
use Rattle.stored.specs.Whole.{Stands, Room}
use Rattle.places.specs.Places.{beside_first}
use Rattle.map_steps.specs.Theorems.{MapIs}

-- P t m says that the concrete memory t means m; k is the key's place, m the memory before
pub record Dropped {S : Type 0} (P : S → Memory → Type 0) (t : S) (q : Result (Unit {0}) MemoryRefusal) (before sooner : ℕ → ℕ → Bool) (k : ℕ) (m : Memory) (map : Tree Bool ℕ) (due held : Tree ℕ ℕ) : Type 0 where
  pub accepted : q ≡ Ok tt
  pub after : Memory
  pub meant : P t after
  pub is : MapIs before sooner m after (drop_tree before k map) due held 0

-- places are compared beside the key; register 35 is nil
pub record Drops {S K : Type 0} (P : S → Memory → Type 0) (s t : S) (q : Result (Unit {0}) MemoryRefusal) (first : K → K → Bool) (keys : List K) (key : K) : Type 0 where
  pub from : (sooner : ℕ → ℕ → Bool) (k : ℕ) (m : Memory) (map : Tree Bool ℕ) (due held : Tree ℕ ℕ) → P s m → slice_get keys k ≡ Some key
      → Stands (beside_first first keys key) sooner m map due held → Room m → m.regs 35 ≡ None → holds (beside_first first keys key) k map ≡ true
      → Dropped P t q (beside_first first keys key) sooner k m map due held
