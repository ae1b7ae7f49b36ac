-- What the map's writing calls leave, in terms of its keys and values.
--
--   NewMap          the map's list has a key's value set, the invariant holds again, and an update's worth was spent
--   Replaced        the answer whether a key is there, and what has become of the map
--   Added           a new key is in the map
--   ReplacesValue   a key that is there gets a value; where it is not, nothing but registers changes
--   AddsKey         a key that is not there, but in the book, gets a node and a value
use Rattle.std.specs.Prelude.{◌≡◌, ℕ, ◌<◌, Bool, true, false, List, length, is_some, Some, None, Ok, Result}
use Rattle.std.specs.List.{slice_get}
use Rattle.refusals.specs.declared.kinds.MemoryRefusal.{MemoryRefusal}
use Rattle.trees.specs.Trees.{Tree, entries}
use Rattle.trees.specs.Lists.{list_get, list_put}
use Rattle.memory.specs.Memory.{Memory}
use Rattle.stored.specs.Whole.{Stands, Room, Spent, Untouched}
use Rattle.places.specs.Places.{place_first}
use Rattle.map_reading.specs.Reading.{keyed, InBook}

module _ {K : Type 0} (first : K → K → Bool) (keys : List K) (key : K) (v : ℕ) (sooner : ℕ → ℕ → Bool) (m : Memory) (map : Tree Bool ℕ) (due held : Tree ℕ ℕ) where
  -- in the memory m', with so many nodes made; both queues are as before
  pub record NewMap (m' : Memory) (nodes : ℕ) : Type 0 where
    pub tree : Tree Bool ℕ
    pub standing : Stands (place_first first keys) sooner m' tree due held
    pub in_book : InBook (length keys) (entries tree)
    pub list : keyed keys key (entries tree) ≡ list_put first key v (keyed keys key (entries map))
    pub spent : Spent m m' nodes

  pub record Replaced {S : Type 0} (P : S → Memory → Type 0) (t : S) (r : Result Bool MemoryRefusal) : Type 0 where
    pub after : Memory
    pub means : P t after
    pub answer : r ≡ Ok (is_some (list_get first key (keyed keys key (entries map))))
    pub there : is_some (list_get first key (keyed keys key (entries map))) ≡ true → NewMap after 0
    pub absent : is_some (list_get first key (keyed keys key (entries map))) ≡ false → Untouched m after

  pub record Added {S : Type 0} (P : S → Memory → Type 0) (t : S) (r : Result (Unit {0}) MemoryRefusal) : Type 0 where
    pub after : Memory
    pub means : P t after
    pub answer : r ≡ Ok tt
    pub new : NewMap after 1

module _ {K : Type 0} (first : K → K → Bool) (keys : List K) (key : K) {S : Type 0} (P : S → Memory → Type 0) (t : S) where
  abbrev pub ReplacesValue : ℕ → Result Bool MemoryRefusal → Memory → Type 0
  ReplacesValue v r m = (sooner : ℕ → ℕ → Bool) (map : Tree Bool ℕ) (due held : Tree ℕ ℕ) → Stands (place_first first keys) sooner m map due held → InBook (length keys) (entries map) → Room m
      → Replaced first keys key v sooner m map due held P t r

  abbrev pub AddsKey : ℕ → ℕ → Result (Unit {0}) MemoryRefusal → Memory → Type 0
  AddsKey place v r m = (sooner : ℕ → ℕ → Bool) (map : Tree Bool ℕ) (due held : Tree ℕ ℕ) → Stands (place_first first keys) sooner m map due held → InBook (length keys) (entries map) → Room m
      → m.made < m.node_limit → place < length keys → slice_get keys place ≡ Some key → list_get first key (keyed keys key (entries map)) ≡ None
      → Added first keys key v sooner m map due held P t r
