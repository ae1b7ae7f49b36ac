-- The steps that remove a key from the map's tree. Register d holds the root of the subtree at depth d, register d + 1 its child; register
-- 35 is nil. A row answers whether the tree that it leaves under its register is one black node short.
--
--   tilt_of, spin_of   a sibling's red child is rotated outwards; the sibling is rotated above its parent
--   sibling_fix_of     a side that is short, beside a black sibling
--   regraft_of         the child on a side, cut off while it is put right
--   short_fix_of       a side that is short
--   step_up_of         one level of a removal: the child is linked again, and its side put right
--   spliced_of         a node is gone, and what was below it stands in its place
--   take_of            a node with one child at most leaves its place, into register 36
--   first_of           the first node of a tree leaves its place, into register 36
--   replace_of         the node of register 36 takes the place of another
--   root_out_of        the root of a tree is taken out
--   way_to             on which side of a place a key lies, or nothing where it is there
--   remove_of          the node with a key is taken out
--   drop_of            the whole, from root 0
use Rattle.std.specs.Prelude.{ℕ, zero, suc, Bool, true, false, cond, not, ◌||◌, Some, None, Option}
use Rattle.refusals.specs.declared.kinds.MemoryRefusal.TheVariants.{OutOfRange}
use Rattle.memory.specs.Memory.{Memory}
use Rattle.memory.specs.Steps.{Done, done, no, then, load_of, follow_of, move_of, key_of, nil_of, link_of}
use Rattle.stored.specs.Stored.{side, colour}
use Rattle.stored.specs.Writes.{relink_of, renumber_of, resave_of, rotate_of, blank_of}
use Rattle.map_steps.specs.Insert.{red_of}

-- the sibling is in register 26, its near child, which is red, in register 28; its far child goes into register 27
unfoldable pub tilt_of : ℕ → Bool → Memory → Done Unit
tilt_of d s m =
    then (renumber_of 1 28 0 m) (λ _ m1.
    then (renumber_of 1 26 1 m1) (λ _ m2.
    then (rotate_of 26 s m2) (λ _ m3.
    then (relink_of d (not s) 26 m3) (λ _ m4.
    follow_of 26 (side (not s)) 27 m4))))

-- the sibling's far child, in register 27, is red; c is the colour that the new root gets
unfoldable pub spin_of : ℕ → Bool → Bool → Memory → Done Bool
spin_of d s c m =
    then (renumber_of 1 27 0 m) (λ _ m1.
    then (renumber_of 1 d 0 m1) (λ _ m2.
    then (rotate_of d (not s) m2) (λ _ m3.
    then (renumber_of 1 d (colour c) m3) (λ _ m4. done false m4))))

-- the sibling and its parent take over the lack
unfoldable pub pass_up_of : ℕ → Bool → Memory → Done Bool
pass_up_of d top m = then (renumber_of 1 26 1 m) (λ _ m1. then (renumber_of 1 d 0 m1) (λ _ m2. done (not top) m2))

unfoldable pub sibling_fix_of : ℕ → Bool → Memory → Done Bool
sibling_fix_of d s m =
    then (follow_of d (side (not s)) 26 m) (λ _ m1.
    then (follow_of 26 (side (not s)) 27 m1) (λ _ m2.
    then (follow_of 26 (side s) 28 m2) (λ _ m3.
    then (red_of d m3) (λ top m4.
    then (red_of 27 m4) (λ far m5.
    then (red_of 28 m5) (λ near m6.
    cond (far || near) (then (cond far (done tt m6) (tilt_of d s m6)) (λ _ m7. spin_of d s top m7)) (pass_up_of d top m6)))))))

-- the link to the child is nil meanwhile, so that no node has a third name
unfoldable pub regraft_of : ℕ → Bool → Memory → Done Bool
regraft_of d s m =
    then (follow_of d (side s) (suc d) m) (λ _ m1.
    then (link_of d (side s) 35 m1) (λ _ m2.
    then (sibling_fix_of (suc d) s m2) (λ _ m3.
    then (link_of d (side s) (suc d) m3) (λ _ m4. done false m4))))

-- the sibling, in register 26, is red: it is rotated above its parent first
unfoldable pub red_sibling_of : ℕ → Bool → Memory → Done Bool
red_sibling_of d s m =
    then (renumber_of 1 26 0 m) (λ _ m1.
    then (renumber_of 1 d 1 m1) (λ _ m2.
    then (rotate_of d (not s) m2) (λ _ m3.
    regraft_of d s m3)))

unfoldable pub short_fix_of : ℕ → Bool → Memory → Done Bool
short_fix_of d s m =
    then (follow_of d (side (not s)) 26 m) (λ _ m1.
    then (red_of 26 m1) (λ r m2.
    cond r (red_sibling_of d s m2) (sibling_fix_of d s m2)))

unfoldable pub step_up_of : ℕ → Bool → Bool → Memory → Done Bool
step_up_of d s short m = then (relink_of d s (suc d) m) (λ _ m1. cond short (short_fix_of d s m1) (done false m1))

-- a node of the colour c is gone
unfoldable pub spliced_of : ℕ → Bool → Memory → Done Bool
spliced_of d c m = cond c (done false m) (then (red_of d m) (λ r m1. cond r (then (renumber_of 1 d 0 m1) (λ _ m2. done false m2)) (done true m1)))

-- The node under d has one child at most, on the side s, which takes its place. Where the node is taken out for good, both its links
-- are written; where it is to stand elsewhere, only the one that leads to the child.
unfoldable pub take_of : Bool → ℕ → Bool → Memory → Done Bool
take_of out d s m =
    then (move_of d 36 m) (λ _ m1.
    then (red_of 36 m1) (λ c m2.
    then (follow_of 36 (side s) d m2) (λ _ m3.
    then (cond out (blank_of 36 m3) (relink_of 36 s 35 m3)) (λ _ m4.
    spliced_of d c m4))))

unfoldable pub first_of : ℕ → ℕ → Memory → Done Bool
first_of zero d m = no OutOfRange
first_of (suc g) d m =
    then (follow_of d 0 (suc d) m) (λ _ m1.
    then (nil_of (suc d) m1) (λ nil m2. cond nil (take_of false d true m2)
    (then (first_of g (suc d) m2) (λ short m3. step_up_of d false short m3))))

-- the left child of the node under d is in register 37, its right one in register d + 1; c is its colour
unfoldable pub replace_of : ℕ → Bool → Memory → Done Unit
replace_of d c m =
    then (blank_of d m) (λ _ m1.
    then (relink_of 36 false 37 m1) (λ _ m2.
    then (relink_of 36 true (suc d) m2) (λ _ m3.
    then (renumber_of 1 36 (colour c) m3) (λ _ m4.
    move_of 36 d m4))))

unfoldable pub swap_out_of : ℕ → ℕ → Memory → Done Bool
swap_out_of g d m =
    then (red_of d m) (λ c m1.
    then (first_of g (suc d) m1) (λ short m2.
    then (replace_of d c m2) (λ _ m3.
    cond short (short_fix_of d true m3) (done false m3))))

unfoldable pub root_out_of : ℕ → ℕ → Memory → Done Bool
root_out_of g d m =
    then (follow_of d 1 (suc d) m) (λ _ m1.
    then (nil_of (suc d) m1) (λ bare m2. cond bare (take_of true d false m2)
    (then (follow_of d 0 37 m2) (λ _ m3.
    then (nil_of 37 m3) (λ nil m4. cond nil (take_of true d true m4) (swap_out_of g d m4))))))

unfoldable pub below_of : (ℕ → Memory → Done Bool) → ℕ → Bool → Memory → Done Bool
below_of below d s m = then (follow_of d (side s) (suc d) m) (λ _ m1. then (below (suc d) m1) (λ short m2. step_up_of d s short m2))

-- what is done at the key, or on the side where it lies
abbrev pub on_way : {A : Type 0} → Option Bool → A → (Bool → A) → A
on_way None here there = here
on_way (Some s) here there = there s

abbrev pub way_to : (ℕ → ℕ → Bool) → ℕ → ℕ → Option Bool
way_to before k p = cond (before k p) (Some false) (cond (before p k) (Some true) None)

-- way tells on which side of a place the key lies, or nothing where it is there
unfoldable pub remove_of : (ℕ → Option Bool) → ℕ → ℕ → Memory → Done Bool
remove_of way zero d m = no OutOfRange
remove_of way (suc g) d m = then (key_of d m) (λ here m1. on_way (way here) (root_out_of g d m1) (λ s. below_of (remove_of way g) d s m1))

unfoldable pub drop_of : (ℕ → Option Bool) → Memory → Done Unit
drop_of way m = then (load_of 0 0 m) (λ _ m1. then (remove_of way 25 0 m1) (λ _ m2. resave_of 0 0 m2))
