-- The first entry above a key, as a pair.
use Rattle.std.proofs.Common.{◌≡◌, ℕ, Some, None, Option, sym, refl, ◌∙◌}
use Rattle.trees.specs.Trees.{Entry, entry}
use Rattle.memory.specs.Memory.{Memory}
use Rattle.memory.specs.Steps.{Done, done, no, then, load_of, key_of, number_of}
use Rattle.map_steps.specs.Find.{on_found, seek_of, next_of}
use Rattle.map.specs.Next.{as_pair, next_pair_of, NextPaired}

then_then : {A B C : Type 0} (a : Done A) (k : A → Memory → Done B) (f : B → Memory → Done C) → then (then a k) f ≡ then a (λ x m. then (k x m) f)
then_then (done x m) k f = refl
then_then (no e) k f = refl

then_alike : {A B : Type 0} (a : Done A) (k f : A → Memory → Done B) → ((x : A) (m : Memory) → k x m ≡ f x m) → then a k ≡ then a f
then_alike (done x m) k f h = h x m
then_alike (no e) k f h = refl

abbrev pair : Option (Entry ℕ) → Memory → Done (Option (ℕ × ℕ))
pair e m = done (as_pair e) m

abbrev read_entry : ℕ → Memory → Done (Option (Entry ℕ))
read_entry r m = then (key_of r m) (λ k m1. then (number_of 0 r m1) (λ v m2. done (Some (entry k v)) m2))

abbrev read_pair : ℕ → Memory → Done (Option (ℕ × ℕ))
read_pair r m = then (key_of r m) (λ k m1. then (number_of 0 r m1) (λ v m2. done (Some (k, v)) m2))

read : (found : Option ℕ) (m : Memory) → then (on_found found (done None m) (λ r. read_entry r m)) pair ≡ on_found found (done None m) (λ r. read_pair r m)
read None m = refl
read (Some r) m = then_then (key_of r m) (λ k m1. then (number_of 0 r m1) (λ v m2. done (Some (entry k v)) m2)) pair
    ∙ then_alike (key_of r m) (λ k m1. then (then (number_of 0 r m1) (λ v m2. done (Some (entry k v)) m2)) pair) (λ k m1. then (number_of 0 r m1) (λ v m2. done (Some (k, v)) m2))
    (λ k m1. then_then (number_of 0 r m1) (λ v m2. done (Some (entry k v)) m2) pair)

pub next_paired : NextPaired
unfolding next_of next_pair_of
next_paired left m =
    let below : Unit {0} → Memory → Done (Option (Entry ℕ)) = λ _ m1. then (seek_of left 25 0 None m1) (λ found m2. on_found found (done None m2) (λ r. read_entry r m2)) in
    let paired : Unit {0} → Memory → Done (Option (ℕ × ℕ)) = λ _ m1. then (seek_of left 25 0 None m1) (λ found m2. on_found found (done None m2) (λ r. read_pair r m2)) in
    sym (then_then (load_of 0 0 m) below pair
    ∙ then_alike (load_of 0 0 m) (λ x m1. then (below x m1) pair) paired
    (λ x m1. then_then (seek_of left 25 0 None m1) (λ found m2. on_found found (done None m2) (λ r. read_entry r m2)) pair
    ∙ then_alike (seek_of left 25 0 None m1) (λ found m2. then (on_found found (done None m2) (λ r. read_entry r m2)) pair) (λ found m2. on_found found (done None m2) (λ r. read_pair r m2)) read))
