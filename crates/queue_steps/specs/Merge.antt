-- The steps that merge two heaps: one under register d, the other under register 39. Register d + 1 holds the right child of register d's
-- node on the way down, and what stands beside the left child on the way up.
--
--   rank_of        the rank of a register's node; nil has rank 0
--   next_rank_of   one more than a rank; a mark has 32 bits
--   hang_of        the node of register d gets what is in register d + 1 as a child, the larger rank on the left
--   sink_of        one level of a merge
--   swap_of        the heaps of registers d and 39 change places
--   merge_of       the heap of register 39 joins that of register d
use Rattle.std.specs.Prelude.{ℕ, zero, suc, Bool, true, false, cond, nat_le, nat_lt}
use Rattle.refusals.specs.declared.kinds.MemoryRefusal.TheVariants.{OutOfRange}
use Rattle.memory.specs.Memory.{Memory}
use Rattle.memory.specs.Steps.{Done, done, no, then, check, follow_of, move_of, key_of, number_of, nil_of}
use Rattle.stored.specs.Writes.{relink_of, renumber_of}

unfoldable pub rank_of : ℕ → Memory → Done ℕ
rank_of r m = then (nil_of r m) (λ nil m1. cond nil (done 0 m1) (number_of 1 r m1))

unfoldable pub next_rank_of : ℕ → Memory → Done ℕ
next_rank_of r m = check (nat_lt r 4294967295) OutOfRange (done (suc r) m)

-- the node's mark is one more than r
unfoldable pub ranked_of : ℕ → ℕ → Memory → Done Unit
ranked_of d r m = then (next_rank_of r m) (λ mark m1. renumber_of 1 d mark m1)

unfoldable pub hang_of : ℕ → Memory → Done Unit
hang_of d m =
    then (follow_of d 0 38 m) (λ _ m1.
    then (rank_of 38 m1) (λ rl m2.
    then (rank_of (suc d) m2) (λ rr m3.
    cond (nat_le rr rl)
    (then (relink_of d true (suc d) m3) (λ _ m4. ranked_of d rr m4))
    (then (relink_of d false (suc d) m3) (λ _ m4. then (relink_of d true 38 m4) (λ _ m5. ranked_of d rl m5))))))

unfoldable pub sink_of : (ℕ → Memory → Done Unit) → ℕ → Memory → Done Unit
sink_of below d m = then (follow_of d 1 (suc d) m) (λ _ m1. then (below (suc d) m1) (λ _ m2. hang_of d m2))

unfoldable pub swap_of : ℕ → Memory → Done Unit
swap_of d m = then (move_of d 38 m) (λ _ m1. then (move_of 39 d m1) (λ _ m2. move_of 38 39 m2))

-- before tells which of two places' keys goes first; at most so many levels
unfoldable pub merge_of : (ℕ → ℕ → Bool) → ℕ → ℕ → Memory → Done Unit
merge_of before zero d m = no OutOfRange
merge_of before (suc g) d m =
    then (nil_of 39 m) (λ nil m1. cond nil (done tt m1)
    (then (nil_of d m1) (λ bare m2. cond bare (move_of 39 d m2)
    (then (key_of 39 m2) (λ b m3.
    then (key_of d m3) (λ a m4.
    cond (before b a) (then (swap_of d m4) (λ _ m5. sink_of (merge_of before g) d m5)) (sink_of (merge_of before g) d m4)))))))
