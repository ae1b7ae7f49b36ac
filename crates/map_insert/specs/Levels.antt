-- A part of the steps of an insertion that is a call of its own.
--
--   red_child_of   the child under register d + 1 is red: where it has a red child too, they are put right
use Rattle.std.specs.Prelude.{ℕ, suc, Bool, cond, not, ◌||◌}
use Rattle.memory.specs.Memory.{Memory}
use Rattle.memory.specs.Steps.{Done, done, then, follow_of}
use Rattle.stored.specs.Stored.{side}
use Rattle.map_steps.specs.Insert.{red_of, red_pair_of}

-- the child is on the side s; its outer child goes into register 26, its inner one into register 27
unfoldable pub red_child_of : ℕ → Bool → Memory → Done Unit
red_child_of d s m =
    then (follow_of (suc d) (side s) 26 m) (λ _ m3.
    then (follow_of (suc d) (side (not s)) 27 m3) (λ _ m4.
    then (red_of 26 m4) (λ outer m5.
    then (red_of 27 m5) (λ inner m6.
    cond (outer || inner) (red_pair_of d s inner m6) (done tt m6)))))
