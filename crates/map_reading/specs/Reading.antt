-- What the map's reading calls answer, in terms of its keys and values.
--
--   keyed       a list of places with their values, as keys with their values
--   InBook      every place of a list is written in the book
--   Told        an answer, and a memory of which only registers have changed
--   GetsValue   the value of a key, or nothing
--   GetsAbove   the place and value of the first key above a key, or nothing
use Rattle.std.specs.Prelude.{◌≡◌, ℕ, ◌<◌, ◌≤◌, Bool, List, [], ◌∷◌, length, Ok, Option, Result}
use Rattle.refusals.specs.declared.kinds.MemoryRefusal.{MemoryRefusal}
use Rattle.trees.specs.Trees.{Tree, Entry, entry, entries}
use Rattle.trees.specs.Lists.{list_get, list_next}
use Rattle.memory.specs.Memory.{Memory}
use Rattle.stored.specs.Whole.{Stands, Untouched}
use Rattle.places.specs.Places.{key_at, place_first, beside_first}
use Rattle.map.specs.Next.{as_pair}

-- the keys of a book at the places of a list; key stands for what is not written
abbrev pub keyed : {K : Type 0} → List K → K → List (Entry ℕ) → List (Entry K)
keyed keys key [] = []
keyed keys key (x ∷ xs) = entry (key_at keys key x.key) x.value ∷ keyed keys key xs

-- every place is below n
abbrev pub InBook : ℕ → List (Entry ℕ) → Type 0
InBook n [] = Unit {0}
InBook n (x ∷ xs) = (x.key < n) × InBook n xs

-- the answer is right, and the memory t means m but for registers
pub record Told {S A : Type 0} (P : S → Memory → Type 0) (t : S) (r : Result A MemoryRefusal) (m : Memory) (right : A) : Type 0 where
  pub after : Memory
  pub means : P t after
  pub answer : r ≡ Ok right
  pub untouched : Untouched m after

module _ {K : Type 0} (first : K → K → Bool) (keys : List K) (key : K) {S : Type 0} (P : S → Memory → Type 0) (t : S) where
  -- where the invariant stands, the key's value in the list of the map
  abbrev pub GetsValue : Result (Option ℕ) MemoryRefusal → Memory → Type 0
  GetsValue r m = (sooner : ℕ → ℕ → Bool) (map : Tree Bool ℕ) (due held : Tree ℕ ℕ) → Stands (place_first first keys) sooner m map due held → InBook (length keys) (entries map) → m.made ≤ 4096
      → Told P t r m (list_get first key (keyed keys key (entries map)))

  -- and the first entry above it, the key compared as if it stood behind the book
  abbrev pub GetsAbove : Result (Option (ℕ × ℕ)) MemoryRefusal → Memory → Type 0
  GetsAbove r m = (sooner : ℕ → ℕ → Bool) (map : Tree Bool ℕ) (due held : Tree ℕ ℕ) → Stands (place_first first keys) sooner m map due held → InBook (length keys) (entries map) → m.made ≤ 4096
      → Told P t r m (as_pair (list_next (beside_first first keys key) (length keys) (entries map)))
