-- The steps that only read the map, and the one that replaces a value.
--
--   on_found    what is done with a register that was found, or without one
--   find_of     the register that holds the node with a key, or nothing; from the subtree under a register
--   lookup_of   the same, from root 0
--   get_of      the value of a key, or nothing
--   set_of      a key that is there gets a value; answers whether it is there
--   seek_of     the register that holds the first node above a key, or the best so far
--   next_of     the first entry above a key, or nothing
use Rattle.std.specs.Prelude.{ℕ, zero, suc, Bool, true, false, cond, Some, None, Option}
use Rattle.refusals.specs.declared.kinds.MemoryRefusal.TheVariants.{OutOfRange}
use Rattle.trees.specs.Trees.{Entry, entry}
use Rattle.memory.specs.Memory.{Memory}
use Rattle.memory.specs.Steps.{Done, done, no, then, load_of, follow_of, key_of, number_of, nil_of}
use Rattle.stored.specs.Stored.{side}
use Rattle.stored.specs.Writes.{renumber_of}
use Rattle.map_steps.specs.Remove.{on_way}

abbrev pub on_found : {A : Type 0} → Option ℕ → A → (ℕ → A) → A
on_found None none some = none
on_found (Some r) none some = some r

unfoldable pub find_of : (ℕ → Option Bool) → ℕ → ℕ → Memory → Done (Option ℕ)
find_of way zero d m = no OutOfRange
find_of way (suc g) d m =
    then (nil_of d m) (λ nil m1. cond nil (done None m1)
    (then (key_of d m1) (λ here m2. on_way (way here) (done (Some d) m2)
    (λ s. then (follow_of d (side s) (suc d) m2) (λ _ m3. find_of way g (suc d) m3)))))

unfoldable pub lookup_of : (ℕ → Option Bool) → Memory → Done (Option ℕ)
lookup_of way m = then (load_of 0 0 m) (λ _ m1. find_of way 25 0 m1)

unfoldable pub get_of : (ℕ → Option Bool) → Memory → Done (Option ℕ)
get_of way m = then (lookup_of way m) (λ found m1. on_found found (done None m1) (λ r. then (number_of 0 r m1) (λ v m2. done (Some v) m2)))

unfoldable pub set_of : (ℕ → Option Bool) → ℕ → Memory → Done Bool
set_of way v m = then (lookup_of way m) (λ found m1. on_found found (done false m1) (λ r. then (renumber_of 0 r v m1) (λ _ m2. done true m2)))

-- left tells whether the key goes before the one at a place
unfoldable pub seek_of : (ℕ → Bool) → ℕ → ℕ → Option ℕ → Memory → Done (Option ℕ)
seek_of left zero d best m = no OutOfRange
seek_of left (suc g) d best m =
    then (nil_of d m) (λ nil m1. cond nil (done best m1)
    (then (key_of d m1) (λ here m2. cond (left here)
    (then (follow_of d 0 (suc d) m2) (λ _ m3. seek_of left g (suc d) (Some d) m3))
    (then (follow_of d 1 (suc d) m2) (λ _ m3. seek_of left g (suc d) best m3)))))

unfoldable pub next_of : (ℕ → Bool) → Memory → Done (Option (Entry ℕ))
next_of left m =
    then (load_of 0 0 m) (λ _ m1.
    then (seek_of left 25 0 None m1) (λ found m2. on_found found (done None m2)
    (λ r. then (key_of r m2) (λ k m3. then (number_of 0 r m3) (λ v m4. done (Some (entry k v)) m4)))))
