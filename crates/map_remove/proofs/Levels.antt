-- One level of the ways down, refusals out of range, and the branches of the rows.
use Rattle.std.proofs.Common.{◌≡◌, ℕ, suc, ◌+◌, ◌-◌, ◌<◌, Bool, Some, Option, Result, sym, ap, ◌∙◌, add-one, arith}
use mathlib.Core.Path.{subst⁻¹}
use Rattle.refusals.specs.declared.kinds.MemoryRefusal.{MemoryRefusal}
use Rattle.memory.specs.Memory.{Memory}
use Rattle.memory.specs.Steps.{Done}
use Rattle.memory.specs.Promises.{Comes}
use Rattle.map_steps.specs.Remove.{first_of, below_of, on_way, remove_of}
use Rattle.map_remove.specs.Taking.{first_body, remove_body}

-- what a row comes to is what an equal row comes to
pub came_by : {S A : Type 0} {P : S → Memory → Type 0} {t : S} {r : Result A MemoryRefusal} {x y : Done A} → x ≡ y → Comes P t r y → Comes P t r x
came_by {P = P} {t = t} {r = r} e h = subst⁻¹ (λ z. Comes P t r z) e h

pub on_some : {S A : Type 0} {P : S → Memory → Type 0} {t : S} {r : Result A MemoryRefusal} (o : Option Bool) (s : Bool) (x : Done A) (f : Bool → Done A) → o ≡ Some s → Comes P t r (f s) → Comes P t r (on_way o x f)
on_some o s x f e h = rw e h

-- 25 levels below the root at most
pub first_step : (d : ℕ) (m : Memory) → d < 25 → first_of (25 - d) d m ≡ first_body (first_of (25 - (d + 1))) d (d + 1) m
unfolding first_of
first_step d m h =
    let e : 25 - d ≡ suc (25 - (d + 1)) = omega arith in
    ap (λ n. first_of n d m) e ∙ ap (λ k. first_body (first_of (25 - (d + 1))) d k m) (sym (add-one d))

pub remove_step : (way : ℕ → Option Bool) (d : ℕ) (m : Memory) → d < 25 → remove_of way (25 - d) d m ≡ remove_body way (remove_of way (25 - (d + 1))) (25 - (d + 1)) d (d + 1) m
unfolding remove_of below_of
remove_step way d m h =
    let e : 25 - d ≡ suc (25 - (d + 1)) = omega arith in
    ap (λ n. remove_of way n d m) e ∙ ap (λ k. remove_body way (remove_of way (25 - (d + 1))) (25 - (d + 1)) d k m) (sym (add-one d))
