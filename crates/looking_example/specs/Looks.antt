-- Looking at another version and coming back, as an example of code over a versioned memory.
--
--   root_nil_of   the steps that ask whether root 0 is nil
--   look_answer   whether root 0 of a version is nil; 31 where the version is unknown
--   Resting       a memory at rest at a version
--   Looks         the answer of a look, and that it leaves the memory equal to what it was
use Rattle.std.specs.Prelude.{◌≡◌, ℕ, Bool, cond, Ok, Err, Result, nat_lt}
use Rattle.refusals.specs.declared.kinds.OrderRefusal.TheVariants.{UnknownItem}
use Rattle.refusals.specs.declared.kinds.MemoryRefusal.{MemoryRefusal}
use Rattle.refusals.specs.declared.kinds.MemoryRefusal.TheVariants.{Order}
use Rattle.memory.specs.Memory.{Memory, state_of, AllNil, Sound}
use Rattle.memory.specs.Steps.{Done, then, is_nil, load_of, nil_of}

abbrev pub root_nil_of : Memory → Done Bool
root_nil_of m = then (load_of 0 0 m) (λ _ m1. nil_of 0 m1)

abbrev pub look_answer : ℕ → Memory → Result Bool MemoryRefusal
look_answer v m = cond (nat_lt v m.rest.versions) (Ok (is_nil ((state_of m v).roots 0))) (Err (Order UnknownItem))

-- the memory is sound, works at `back`, and all its registers are nil
pub record Resting (back : ℕ) (m : Memory) : Type 0 where
  pub sound : Sound m
  pub working : m.rest.working ≡ back
  pub nil : AllNil m

-- the result r of a look at v, from the memory s that means m, to the memory t
pub record Looks {S : Type 0} (v : ℕ) (s t : S) (r : Result Bool MemoryRefusal) (m : Memory) : Type 0 where
  pub answer : r ≡ look_answer v m
  pub same : t ≡ s
