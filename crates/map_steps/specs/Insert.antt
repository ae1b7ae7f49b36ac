-- The steps that insert a key into the map's tree. Register d holds the root of the subtree at depth d, register d + 1 its child.
--
--   red_of           whether a register's node is red; nil is black
--   recolour_of      a red child and its red sibling become black, their parent red
--   straighten_of    the inner grandchild is rotated outwards
--   raise_of         the child is rotated above its parent, and they exchange colours
--   insert_fix_of    a red child with a red child of its own is put right under a black parent
--   insert_step_of   one level of an insertion
--   insert_of        a new node with a key's place, a value and the colour red, at the bottom of the way to its key
--   add_of           the whole: from root 0, which ends black
use Rattle.std.specs.Prelude.{ℕ, zero, suc, Bool, false, cond, not, ◌||◌, ◌==◌}
use Rattle.refusals.specs.declared.kinds.MemoryRefusal.TheVariants.{OutOfRange}
use Rattle.memory.specs.Memory.{Memory}
use Rattle.memory.specs.Steps.{Done, done, no, then, load_of, follow_of, key_of, number_of, nil_of, make_of}
use Rattle.stored.specs.Stored.{side}
use Rattle.stored.specs.Writes.{relink_of, renumber_of, resave_of, rotate_of}

unfoldable pub red_of : ℕ → Memory → Done Bool
red_of r m = then (nil_of r m) (λ nil m1. cond nil (done false m1) (then (number_of 1 r m1) (λ mark m2. done (mark == 1) m2)))

-- the child is in register d + 1, its sibling in register 28
unfoldable pub recolour_of : ℕ → Memory → Done Unit
recolour_of d m = then (renumber_of 1 (suc d) 0 m) (λ _ m1. then (renumber_of 1 28 0 m1) (λ _ m2. renumber_of 1 d 1 m2))

unfoldable pub straighten_of : ℕ → Bool → Memory → Done Unit
straighten_of d s m = then (rotate_of (suc d) (not s) m) (λ _ m1. relink_of d s (suc d) m1)

unfoldable pub raise_of : ℕ → Bool → Memory → Done Unit
raise_of d s m = then (renumber_of 1 d 1 m) (λ _ m1. then (rotate_of d s m1) (λ _ m2. renumber_of 1 d 0 m2))

unfoldable pub rotations_of : ℕ → Bool → Bool → Memory → Done Unit
rotations_of d s inner m = then (cond inner (straighten_of d s m) (done tt m)) (λ _ m1. raise_of d s m1)

unfoldable pub red_pair_of : ℕ → Bool → Bool → Memory → Done Unit
red_pair_of d s inner m =
    then (follow_of d (side (not s)) 28 m) (λ _ m1.
    then (red_of 28 m1) (λ sibling m2.
    cond sibling (recolour_of d m2) (rotations_of d s inner m2)))

-- the child on the side s is in register d + 1
unfoldable pub insert_fix_of : ℕ → Bool → Memory → Done Unit
insert_fix_of d s m =
    then (red_of d m) (λ top m1. cond top (done tt m1)
    (then (red_of (suc d) m1) (λ low m2. cond low
    (then (follow_of (suc d) (side s) 26 m2) (λ _ m3.
    then (follow_of (suc d) (side (not s)) 27 m3) (λ _ m4.
    then (red_of 26 m4) (λ outer m5.
    then (red_of 27 m5) (λ inner m6.
    cond (outer || inner) (red_pair_of d s inner m6) (done tt m6))))))
    (done tt m2))))

unfoldable pub insert_step_of : (ℕ → Memory → Done Unit) → ℕ → Bool → Memory → Done Unit
insert_step_of below d s m =
    then (follow_of d (side s) (suc d) m) (λ _ m1.
    then (below (suc d) m1) (λ _ m2.
    then (relink_of d s (suc d) m2) (λ _ m3.
    insert_fix_of d s m3)))

-- left tells whether the key goes before the one at a place; at most so many levels
unfoldable pub insert_of : (ℕ → Bool) → ℕ → ℕ → ℕ → ℕ → Memory → Done Unit
insert_of left place value zero d m = no OutOfRange
insert_of left place value (suc g) d m =
    then (nil_of d m) (λ nil m1. cond nil (make_of d place value 1 m1)
    (then (key_of d m1) (λ here m2. insert_step_of (insert_of left place value g) d (not (left here)) m2)))

unfoldable pub add_of : (ℕ → Bool) → ℕ → ℕ → Memory → Done Unit
add_of left place value m =
    then (load_of 0 0 m) (λ _ m1.
    then (insert_of left place value 25 0 m1) (λ _ m2.
    then (renumber_of 1 0 0 m2) (λ _ m3.
    resave_of 0 0 m3)))
