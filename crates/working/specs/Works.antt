-- What the calls of a memory at work promise. `means` and `items` are the meanings of its memory and of its order.
--
--   working_means   what a memory at work means: what its memory means with the items of its order
--   SameLoan        the same memory is lent after as before, and the order is the same
--   Calls           a call does a step, and keeps the loan
--   Works           a row of calls runs a chain of steps, and keeps the loan
use Rattle.std.specs.Prelude.{◌≡◌, ℕ, List, Result}
use Rattle.refusals.specs.declared.kinds.MemoryRefusal.{MemoryRefusal}
use Rattle.memory.specs.Memory.{Memory}
use Rattle.memory.specs.Steps.{Done}
use Rattle.memory.specs.Promises.{Does, Runs}
use Rattle.working.specs.declared.Working.{Working}

abbrev pub working_means : {M O : Type 0} → (M → List ℕ → Memory → Type 0) → (O → List ℕ) → Working M O → Memory → Type 0
working_means means items w m = means w.memory.now (items w.order.now) m

pub record SameLoan {M O : Type 0} (v w : Working M O) : Type 0 where
  pub memory : w.memory.ghost_name ≡ v.memory.ghost_name
  pub order : w.order ≡ v.order

pub record Calls {M O A : Type 0} (means : M → List ℕ → Memory → Type 0) (items : O → List ℕ) (v w : Working M O) (r : Result A MemoryRefusal) (step : Memory → Done A) : Type 0 where
  pub does : Does (working_means means items) v w r step
  pub same : SameLoan v w

pub record Works {M O A : Type 0} (means : M → List ℕ → Memory → Type 0) (items : O → List ℕ) (v w : Working M O) (r : Result A MemoryRefusal) (steps : Memory → Done A) : Type 0 where
  pub runs : Runs (working_means means items) v w r steps
  pub same : SameLoan v w
