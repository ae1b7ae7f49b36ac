-- Parts of the rows of a removal, as the code is cut. Register k is the one below register d.
--
--   unlink_of     the links of the node in register 36 as it leaves its place
--   first_body    one level of the way to the first node
--   remove_body   one level of the way to a key
use Rattle.std.specs.Prelude.{ℕ, Bool, true, false, cond, Option}
use Rattle.memory.specs.Memory.{Memory}
use Rattle.memory.specs.Steps.{Done, then, follow_of, key_of, nil_of}
use Rattle.stored.specs.Stored.{side}
use Rattle.stored.specs.Writes.{relink_of, blank_of}
use Rattle.map_steps.specs.Remove.{take_of, step_up_of, root_out_of, on_way}

-- taken out for good: both links are written; to stand elsewhere: the one that leads to the child
unfoldable pub unlink_of : Bool → Bool → Memory → Done Unit
unlink_of out s m = cond out (blank_of 36 m) (relink_of 36 s 35 m)

abbrev pub first_body : (ℕ → Memory → Done Bool) → ℕ → ℕ → Memory → Done Bool
first_body below d k m =
    then (follow_of d 0 k m) (λ _ m1.
    then (nil_of k m1) (λ nil m2. cond nil (take_of false d true m2)
    (then (below k m2) (λ short m3. step_up_of d false short m3))))

abbrev pub remove_body : (ℕ → Option Bool) → (ℕ → Memory → Done Bool) → ℕ → ℕ → ℕ → Memory → Done Bool
remove_body way below g d k m =
    then (key_of d m) (λ here m1. on_way (way here) (root_out_of g d m1) (λ s.
    then (follow_of d (side s) k m1) (λ _ m2.
    then (below k m2) (λ short m3. step_up_of d s short m3))))
