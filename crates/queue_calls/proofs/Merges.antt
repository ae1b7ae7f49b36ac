-- One level of a merge, as the code goes through it.
use Rattle.std.proofs.Common.{◌≡◌, ℕ, suc, ◌+◌, ◌-◌, ◌<◌, Bool, true, false, cond, sym, refl, ap, ◌∙◌, arith}
use Rattle.memory.specs.Memory.{Memory}
use Rattle.memory.specs.Steps.{Done, done, no, then, follow_of, move_of, key_of, nil_of}
use Rattle.queue_steps.specs.Merge.{hang_of, sink_of, swap_of, merge_of}
use Rattle.queue_calls.specs.Rows.{lead_of}

-- steps after steps, in either grouping
then_then : {A B C : Type 0} (x : Done A) (f : A → Memory → Done B) (k : B → Memory → Done C) → then (then x f) k ≡ then x (λ a m. then (f a m) k)
then_then (done a m) f k = refl
then_then (no e) f k = refl

then_same : {A B : Type 0} (x : Done A) (f g : A → Memory → Done B) → ((a : A) (m : Memory) → f a m ≡ g a m) → then x f ≡ then x g
then_same (done a m) f g h = h a m
then_same (no e) f g h = refl

cond_then : {B : Type 0} (b : Bool) (x : Done Unit) (m : Memory) (k : Unit → Memory → Done B) → then (cond b x (done tt m)) k ≡ cond b (then x k) (k tt m)
cond_then true x m k = refl
cond_then false x m k = refl

lead_then : (before : ℕ → ℕ → Bool) (d : ℕ) (m : Memory) (k : Unit → Memory → Done Unit)
    → then (lead_of before d m) k ≡ then (key_of 39 m) (λ b m1. then (key_of d m1) (λ a m2. cond (before b a) (then (swap_of d m2) k) (k tt m2)))
unfolding lead_of
lead_then before d m k =
    then_then (key_of 39 m) _ k
    ∙ then_same (key_of 39 m) _ _ (λ b m1. then_then (key_of d m1) _ k ∙ then_same (key_of d m1) _ _ (λ a m2. cond_then (before b a) (swap_of d m2) m2 k))

-- what follows the comparison; next is the register below d
abbrev pub sink_at : (ℕ → Memory → Done Unit) → ℕ → ℕ → Memory → Done Unit
sink_at below next d m = then (follow_of d 1 next m) (λ _ m1. then (below next m1) (λ _ m2. hang_of d m2))

abbrev pub merge_at : (ℕ → ℕ → Bool) → (ℕ → Memory → Done Unit) → ℕ → ℕ → Memory → Done Unit
merge_at before below next d m =
    then (nil_of 39 m) (λ nil m1. cond nil (done tt m1)
    (then (nil_of d m1) (λ bare m2. cond bare (move_of 39 d m2)
    (then (lead_of before d m2) (λ _ m3. sink_at below next d m3)))))

merge_more : (before : ℕ → ℕ → Bool) (g d : ℕ) (m : Memory) → merge_of before (suc g) d m ≡ merge_at before (merge_of before g) (suc d) d m
unfolding merge_of sink_of
merge_more before g d m =
    then_same (nil_of 39 m) _ _ (λ nil m1. ap (λ x. cond nil (done tt m1) x) (then_same (nil_of d m1) _ _ (λ bare m2. ap (λ x. cond bare (move_of 39 d m2) x)
    (sym (lead_then before d m2 (λ _ m3. sink_at (merge_of before g) (suc d) d m3))))))

-- a level that there is
pub merge_step : (before : ℕ → ℕ → Bool) (d : ℕ) (m : Memory) → d < 25 → merge_of before (25 - d) d m ≡ merge_at before (merge_of before (25 - (d + 1))) (d + 1) d m
merge_step before d m h =
    let e : 25 - d ≡ suc (25 - (d + 1)) = omega arith in
    let f : suc d ≡ d + 1 = omega arith in
    ap (λ n. merge_of before n d m) e ∙ merge_more before (25 - (d + 1)) d m ∙ ap (λ n. merge_at before (merge_of before (25 - (d + 1))) n d m) f
