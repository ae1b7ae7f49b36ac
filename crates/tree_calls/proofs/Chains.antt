-- Rows of calls whose steps are at a computed number, or on one of two branches.
use Rattle.std.proofs.Common.{◌≡◌, ℕ, Bool, true, false, cond, ◌||◌, ◌⊎◌, Result, refl, subst, inl, inr}
use mir.Val.{bool_byte}
use Rattle.refusals.specs.declared.kinds.MemoryRefusal.{MemoryRefusal}
use Rattle.memory.specs.Memory.{Memory}
use Rattle.memory.specs.Steps.{Done}
use Rattle.memory.specs.Promises.{Meets, Comes}
use Rattle.stored.specs.Stored.{side, colour}

pub on_true : {S A : Type 0} {P : S → Memory → Type 0} {s' : S} {r : Result A MemoryRefusal} (b : Bool) (x y : Done A) → b ≡ true → Comes P s' r x → Comes P s' r (cond b x y)
on_true b x y e h = rw e h

pub on_false : {S A : Type 0} {P : S → Memory → Type 0} {s' : S} {r : Result A MemoryRefusal} (b : Bool) (x y : Done A) → b ≡ false → Comes P s' r y → Comes P s' r (cond b x y)
on_false b x y e h = rw e h

-- the number of a side
pub side_at : (right : Bool) → bool_byte right ≡ side right
side_at true = refl
side_at false = refl

-- the mark of a colour
pub colour_at : (red : Bool) → bool_byte red ≡ colour red
colour_at true = refl
colour_at false = refl

-- a call at a number that equals the row's
pub via_call : {S A : Type 0} {P : S → Memory → Type 0} {s s' : S} {r : Result A MemoryRefusal} {x y : ℕ} (f : ℕ → Memory → Done A) → x ≡ y → ((m : Memory) → P s m → Meets P s s' r (f x m)) → (m : Memory) → P s m → Meets P s s' r (f y m)
via_call {P = P} {s = s} {s' = s'} {r = r} f e h m p = subst (λ (n : ℕ). Meets P s s' r (f n m)) e (h m p)

-- a row of calls at what equals the row's
pub via_run : {S A I : Type 0} {P : S → Memory → Type 0} {s' : S} {r : Result A MemoryRefusal} {x y : I} {m : Memory} (f : I → Memory → Done A) → x ≡ y → Comes P s' r (f x m) → Comes P s' r (f y m)
via_run {I = I} {P = P} {s' = s'} {r = r} {m = m} f e h = subst (λ (i : I). Comes P s' r (f i m)) e h

-- whether one of two tests holds
pub one_holds : (a b : Bool) → (a ≡ true) ⊎ ((a ≡ false) × (b ≡ true)) → (a || b) ≡ true
one_holds a b (inl e) = rw e refl
one_holds a b (inr p) = rw p.0 p.1

pub none_holds : (a b : Bool) → (a ≡ false) × (b ≡ false) → (a || b) ≡ false
none_holds a b p = rw p.0 p.1
