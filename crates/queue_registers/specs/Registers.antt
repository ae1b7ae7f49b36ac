-- Pop and release ask that register 35 is nil. It stays so from one call of the queues to the next.
--
--   KeepsIs, Keeps   a row of steps, where it is accepted, leaves x in register 35
--   KeepsNil         the rows of the queues do
--   NilStays         from every memory
use Rattle.std.specs.Prelude.{◌≡◌, ℕ, Bool, Option}
use Rattle.memory.specs.Memory.{Memory}
use Rattle.memory.specs.Steps.{Done, done, no}
use Rattle.queue_steps.specs.Queues.{push_of, pop_of, top_of, release_of}

abbrev pub KeepsIs : {A : Type 0} → Option ℕ → Done A → Type 0
KeepsIs x (done a m) = m.regs 35 ≡ x
KeepsIs x (no e) = Unit {0}

pub record Keeps {A : Type 0} (x : Option ℕ) (d : Done A) : Type 0 where
  pub is : KeepsIs x d

pub record KeepsNil (before : ℕ → ℕ → Bool) (m : Memory) : Type 0 where
  pub push : (root k : ℕ) → Keeps (m.regs 35) (push_of before root k m)
  pub pop : Keeps (m.regs 35) (pop_of before 1 m)
  pub top : Keeps (m.regs 35) (top_of 1 m)
  pub release : Keeps (m.regs 35) (release_of before m)

abbrev pub NilStays : Type 0
NilStays = (before : ℕ → ℕ → Bool) (m : Memory) → KeepsNil before m
