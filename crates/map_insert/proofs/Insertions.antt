-- Rows with a computed register or side, and one level of an insertion.
use Rattle.std.proofs.Common.{◌≡◌, ℕ, suc, ◌-◌, ◌<◌, Bool, cond, not, Result, ap, arith}
use mathlib.Core.Path.{subst⁻¹}
use Rattle.refusals.specs.declared.kinds.MemoryRefusal.{MemoryRefusal}
use Rattle.memory.specs.Memory.{Memory}
use Rattle.memory.specs.Steps.{Done, then, follow_of, key_of, nil_of, make_of}
use Rattle.memory.specs.Promises.{Comes}
use Rattle.stored.specs.Stored.{side}
use Rattle.stored.specs.Writes.{relink_of}
use Rattle.map_steps.specs.Insert.{insert_fix_of, insert_step_of, insert_of}

module _ (left : ℕ → Bool) (place value d : ℕ) where
  -- the way down on a side, and up again
  abbrev pub side_of : Bool → Memory → Done Unit
  side_of s m =
      then (follow_of d (side s) (suc d) m) (λ _ m1.
      then (insert_of left place value (25 - suc d) (suc d) m1) (λ _ m2.
      then (relink_of d s (suc d) m2) (λ _ m3.
      insert_fix_of d s m3)))

  abbrev pub level_of : Memory → Done Unit
  level_of m =
      then (nil_of d m) (λ nil m1. cond nil (make_of d place value 1 m1)
      (then (key_of d m1) (λ here m2. side_of (not (left here)) m2)))

  level_is : (m : Memory) → d < 25 → insert_of left place value (25 - d) d m ≡ level_of m
  unfolding insert_of insert_step_of
  level_is m h = let e : 25 - d ≡ suc (25 - suc d) = omega arith in ap (λ n. insert_of left place value n d m) e

  -- one level
  pub level : {S : Type 0} {P : S → Memory → Type 0} {s' : S} {r : Result (Unit {0}) MemoryRefusal} (m : Memory) → d < 25 → Comes P s' r (level_of m) → Comes P s' r (insert_of left place value (25 - d) d m)
  level {P = P} {s' = s'} {r = r} m h k = subst⁻¹ (λ x. Comes P s' r x) (level_is m h) k
