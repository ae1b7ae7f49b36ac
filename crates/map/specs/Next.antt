-- The first entry above a key, as a pair.
--
--   as_pair        an entry, if there is one, as its key's place and its value
--   next_pair_of   the steps that answer the first entry above a key as such a pair
--   NextPaired     they are the steps of `next_of`, and then its answer as a pair
use Rattle.std.specs.Prelude.{◌≡◌, ℕ, Bool, Some, None, Option}
use Rattle.trees.specs.Trees.{Entry}
use Rattle.memory.specs.Memory.{Memory}
use Rattle.memory.specs.Steps.{Done, done, then, load_of, key_of, number_of}
use Rattle.map_steps.specs.Find.{on_found, seek_of, next_of}

abbrev pub as_pair : Option (Entry ℕ) → Option (ℕ × ℕ)
as_pair None = None
as_pair (Some e) = Some (e.key, e.value)

-- left tells whether the key goes before the one at a place
unfoldable pub next_pair_of : (ℕ → Bool) → Memory → Done (Option (ℕ × ℕ))
next_pair_of left m =
    then (load_of 0 0 m) (λ _ m1.
    then (seek_of left 25 0 None m1) (λ found m2. on_found found (done None m2)
    (λ r. then (key_of r m2) (λ k m3. then (number_of 0 r m3) (λ v m4. done (Some (k, v)) m4)))))

abbrev pub NextPaired : Type 0
NextPaired = (left : ℕ → Bool) (m : Memory) → next_pair_of left m ≡ then (next_of left m) (λ e m1. done (as_pair e) m1)
