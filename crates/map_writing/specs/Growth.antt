-- The map while its book grows.
--
--   Grown       the map stands over the longer book, and its keys and values are the same
--   BookGrows   keys that are added to the book leave the map as it is
use Rattle.std.specs.Prelude.{◌≡◌, ℕ, Bool, List, ◌++◌, length}
use Rattle.trees.specs.Trees.{Tree, entries}
use Rattle.memory.specs.Memory.{Memory}
use Rattle.stored.specs.Whole.{Stands}
use Rattle.places.specs.Places.{place_first}
use Rattle.map_reading.specs.Reading.{keyed, InBook}

pub record Grown {K : Type 0} (first : K → K → Bool) (keys more : List K) (key : K) (sooner : ℕ → ℕ → Bool) (m : Memory) (map : Tree Bool ℕ) (due held : Tree ℕ ℕ) : Type 0 where
  pub standing : Stands (place_first first (keys ++ more)) sooner m map due held
  pub in_book : InBook (length (keys ++ more)) (entries map)
  pub list : keyed (keys ++ more) key (entries map) ≡ keyed keys key (entries map)

abbrev pub BookGrows : Type 0 → Type 0
BookGrows K = (first : K → K → Bool) (keys more : List K) (key : K) (sooner : ℕ → ℕ → Bool) (m : Memory) (map : Tree Bool ℕ) (due held : Tree ℕ ℕ)
    → Stands (place_first first keys) sooner m map due held → InBook (length keys) (entries map) → Grown first keys more key sooner m map due held
