-- What a call of a memory promises, in terms of its step. P is the meaning: P s m says that the concrete memory s, with the order at
-- hand, means the abstract memory m.
--
--   Meets     one call's result and the memory after it are what a step comes to; refused, the memory is equal to the one before
--   Does      a call does a step, from whatever its memory means
--   Tells     the same of a call that only answers
--   Foreign   a call with an order of another count: 20, and nothing is changed
--   Carries   a call that leaves all but registers and working version alone
--   Comes     the result of a row of calls and, where it is accepted, the memory after it, are what a chain of steps comes to
--   Runs      a row of calls runs a chain of steps, from whatever its memory means
use Rattle.std.specs.Prelude.{◌≡◌, Bool, false, Ok, Err, Result}
use Rattle.refusals.specs.declared.kinds.MemoryRefusal.{MemoryRefusal}
use Rattle.refusals.specs.declared.kinds.MemoryRefusal.TheVariants.{ForeignOrder}
use Rattle.memory.specs.Memory.{Memory}
use Rattle.memory.specs.Steps.{Done, done, no}

-- the result r and the memory t after a call at s are what the step comes to; refused, t is s
abbrev pub MeetsIs : {S A : Type 0} → (S → Memory → Type 0) → S → S → Result A MemoryRefusal → Done A → Type 0
MeetsIs P s t (Ok a) (done b m) = (a ≡ b) × P t m
MeetsIs P s t (Ok a) (no e) = ⊥
MeetsIs P s t (Err e) (done b m) = ⊥
MeetsIs P s t (Err e) (no f) = (e ≡ f) × (t ≡ s)

pub record Meets {S A : Type 0} (P : S → Memory → Type 0) (s t : S) (r : Result A MemoryRefusal) (d : Done A) : Type 0 where
  pub is : MeetsIs P s t r d

abbrev pub Does : {S A : Type 0} → (S → Memory → Type 0) → S → S → Result A MemoryRefusal → (Memory → Done A) → Type 0
Does P s t r step = (m : Memory) → P s m → Meets P s t r (step m)

abbrev pub Tells : {S A : Type 0} → (S → Memory → Type 0) → S → Result A MemoryRefusal → (Memory → Done A) → Type 0
Tells P s r step = (m : Memory) → P s m → Meets P s s r (step m)

-- the order is not accepted: refused with 20, and nothing is changed
abbrev pub Foreign : {S A : Type 0} → Bool → S → S → Result A MemoryRefusal → Type 0
Foreign accepted s t r = accepted ≡ false → (r ≡ Err ForeignOrder) × (t ≡ s)

-- whatever was alike to s is alike to t
abbrev pub Carries : {S : Type 0} → (S → S → Type 0) → S → S → Type 0
Carries {S} alike s t = (start : S) → alike start s → alike start t

-- the result r of a row of calls, and the memory t after it where it is accepted, are what the chain of steps comes to
abbrev pub ComesTo : {S A : Type 0} → (S → Memory → Type 0) → S → Result A MemoryRefusal → Done A → Type 0
ComesTo P t r (done b m) = (r ≡ Ok b) × P t m
ComesTo P t r (no e) = r ≡ Err e

pub record Comes {S A : Type 0} (P : S → Memory → Type 0) (t : S) (r : Result A MemoryRefusal) (d : Done A) : Type 0 where
  pub to : ComesTo P t r d

abbrev pub Runs : {S A : Type 0} → (S → Memory → Type 0) → S → S → Result A MemoryRefusal → (Memory → Done A) → Type 0
Runs P s t r steps = (m : Memory) → P s m → Comes P t r (steps m)
