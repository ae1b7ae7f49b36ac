-- Parts of the rows that put right a side which is one black node short, as the code is cut.
--
--   lift_of      a black sibling with a red child is rotated above its parent
--   colours_of   what is done beside a black sibling, by the colours of parent and sibling's children
use Rattle.std.specs.Prelude.{ℕ, Bool, cond, ◌||◌}
use Rattle.memory.specs.Memory.{Memory}
use Rattle.memory.specs.Steps.{Done, done, then}
use Rattle.map_steps.specs.Insert.{red_of}
use Rattle.map_steps.specs.Remove.{tilt_of, spin_of, pass_up_of}

-- top is the colour of the parent; far tells whether the sibling's far child is red, where it is not its near child is
unfoldable pub lift_of : ℕ → Bool → Bool → Bool → Memory → Done Bool
lift_of d s top far m = then (cond far (done tt m) (tilt_of d s m)) (λ _ m1. spin_of d s top m1)

-- the sibling is in register 26, its far child in register 27, its near child in register 28
unfoldable pub colours_of : ℕ → Bool → Memory → Done Bool
colours_of d s m =
    then (red_of d m) (λ top m1.
    then (red_of 27 m1) (λ far m2.
    then (red_of 28 m2) (λ near m3.
    cond (far || near) (lift_of d s top far m3) (pass_up_of d top m3))))
