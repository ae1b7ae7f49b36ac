-- The row that hangs a child, by the number of the register that holds it.
use Rattle.std.proofs.Common.{◌≡◌, ℕ, suc, ◌+◌, ◌<◌, true, false, cond, leb, ap, arith}
use Rattle.std.proofs.lemmas.Bool.Decides.{nat_tests}
use Rattle.memory.specs.Memory.{Memory}
use Rattle.memory.specs.Steps.{Done, then, follow_of}
use Rattle.stored.specs.Writes.{relink_of}
use Rattle.queue_steps.specs.Merge.{rank_of, ranked_of, hang_of}

-- what is in register next becomes a child of register d's node
abbrev pub hang_at : ℕ → ℕ → Memory → Done Unit
hang_at next d m =
    then (follow_of d 0 38 m) (λ _ m1.
    then (rank_of 38 m1) (λ rl m2.
    then (rank_of next m2) (λ rr m3.
    cond (leb rr rl)
    (then (relink_of d true next m3) (λ _ m4. ranked_of d rr m4))
    (then (relink_of d false next m3) (λ _ m4. then (relink_of d true 38 m4) (λ _ m5. ranked_of d rl m5))))))

pub hang_next : (d : ℕ) (m : Memory) → hang_of d m ≡ hang_at (d + 1) d m
unfolding hang_of
hang_next d m = let e : suc d ≡ d + 1 = omega arith in ap (λ n. hang_at n d m) e

pub le_false : (i j : ℕ) → j < i → leb i j ≡ false
le_false i j h = grind (arith, nat_tests)
