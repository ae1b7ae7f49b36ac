-- A part of a merge's row of steps that the code does in one call.
--
--   lead_of   the heap whose first key goes before the other's comes into register d, the other one into register 39
use Rattle.std.specs.Prelude.{ℕ, Bool, cond}
use Rattle.memory.specs.Memory.{Memory}
use Rattle.memory.specs.Steps.{Done, done, then, key_of}
use Rattle.queue_steps.specs.Merge.{swap_of}

-- where neither key goes before the other, the heaps stay
unfoldable pub lead_of : (ℕ → ℕ → Bool) → ℕ → Memory → Done Unit
lead_of before d m =
    then (key_of 39 m) (λ b m1.
    then (key_of d m1) (λ a m2.
    cond (before b a) (swap_of d m2) (done tt m2)))
