-- One level of the way to a key, and what follows an answer that may be nothing.
use Rattle.std.proofs.Common.{◌≡◌, ℕ, suc, ◌+◌, ◌-◌, ◌<◌, Bool, cond, Some, None, Option, Result, sym, ap, ◌∙◌, add-one, arith}
use mathlib.Core.Path.{subst⁻¹}
use Rattle.refusals.specs.declared.kinds.MemoryRefusal.{MemoryRefusal}
use Rattle.memory.specs.Memory.{Memory}
use Rattle.memory.specs.Steps.{Done, done, then, follow_of, key_of, nil_of}
use Rattle.memory.specs.Promises.{Comes}
use Rattle.stored.specs.Stored.{side}
use Rattle.map_steps.specs.Remove.{on_way}
use Rattle.map_steps.specs.Find.{on_found, find_of, seek_of}

module _ {S A : Type 0} {P : S → Memory → Type 0} {s' : S} {r : Result A MemoryRefusal} where
  pub at_side : {s : Bool} (o : Option Bool) (x : Done A) (f : Bool → Done A) → o ≡ Some s → Comes P s' r (f s) → Comes P s' r (on_way o x f)
  at_side o x f e h = subst⁻¹ (λ (q : Option Bool). Comes P s' r (on_way q x f)) e h

  pub found : {k : ℕ} (o : Option ℕ) (x : Done A) (f : ℕ → Done A) → o ≡ Some k → Comes P s' r (f k) → Comes P s' r (on_found o x f)
  found o x f e h = subst⁻¹ (λ (q : Option ℕ). Comes P s' r (on_found q x f)) e h

module _ (way : ℕ → Option Bool) (d : ℕ) where
  -- one level, with the next register
  abbrev pub find_level : ℕ → Memory → Done (Option ℕ)
  find_level next m =
      then (nil_of d m) (λ nil m1. cond nil (done None m1)
      (then (key_of d m1) (λ here m2. on_way (way here) (done (Some d) m2)
      (λ s. then (follow_of d (side s) next m2) (λ _ m3. find_of way (25 - next) next m3)))))

  find_is : (m : Memory) → d < 25 → find_of way (25 - d) d m ≡ find_level (d + 1) m
  unfolding find_of
  find_is m h = let e : 25 - d ≡ suc (25 - suc d) = omega arith in ap (λ n. find_of way n d m) e ∙ ap (λ n. find_level n m) (sym (add-one d))

  pub find_level_lem : {S : Type 0} {P : S → Memory → Type 0} {s' : S} {r : Result (Option ℕ) MemoryRefusal} (m : Memory) → d < 25 → Comes P s' r (find_level (d + 1) m) → Comes P s' r (find_of way (25 - d) d m)
  find_level_lem {P = P} {s' = s'} {r = r} m h k = subst⁻¹ (λ x. Comes P s' r x) (find_is m h) k

module _ (left : ℕ → Bool) (d : ℕ) (best : Option ℕ) where
  -- one level, with the next register
  abbrev pub seek_level : ℕ → Memory → Done (Option ℕ)
  seek_level next m =
      then (nil_of d m) (λ nil m1. cond nil (done best m1)
      (then (key_of d m1) (λ here m2. cond (left here)
      (then (follow_of d 0 next m2) (λ _ m3. seek_of left (25 - next) next (Some d) m3))
      (then (follow_of d 1 next m2) (λ _ m3. seek_of left (25 - next) next best m3)))))

  seek_is : (m : Memory) → d < 25 → seek_of left (25 - d) d best m ≡ seek_level (d + 1) m
  unfolding seek_of
  seek_is m h = let e : 25 - d ≡ suc (25 - suc d) = omega arith in ap (λ n. seek_of left n d best m) e ∙ ap (λ n. seek_level n m) (sym (add-one d))

  pub seek_level_lem : {S : Type 0} {P : S → Memory → Type 0} {s' : S} {r : Result (Option ℕ) MemoryRefusal} (m : Memory) → d < 25 → Comes P s' r (seek_level (d + 1) m) → Comes P s' r (seek_of left (25 - d) d best m)
  seek_level_lem {P = P} {s' = s'} {r = r} m h k = subst⁻¹ (λ x. Comes P s' r x) (seek_is m h) k
