-- What the maker of a single-version memory answers.
--
--   make_refusal   1 where a limit is outside its range, else 2 where the table is too short, else nothing
--   MadeIs         a memory that means the fresh memory, or the refusal with the table handed back
use Rattle.std.specs.Prelude.{◌≡◌, ℕ, cond, ◌&&◌, Some, None, Ok, Err, Option, Result, nat_le}
use Rattle.refusals.specs.declared.kinds.MakerRefusal.{MakerRefusal}
use Rattle.refusals.specs.declared.kinds.MakerRefusal.TheVariants.{LimitOutOfRange, TableTooShort}
use Rattle.memory.specs.Memory.{fresh_single}
use Rattle.single.specs.declared.store.SingleMemory.{SingleMemory}
use Rattle.single.specs.Single.{SingleMeans}

-- from 1 to 4,096 nodes, 160 to 16,384 changes, and a table of at least as many rows as nodes
abbrev pub make_refusal : ℕ → ℕ → ℕ → Option MakerRefusal
make_refusal nodes changes rows =
    cond (nat_le 1 nodes && nat_le nodes 4096 && nat_le 160 changes && nat_le changes 16384)
    (cond (nat_le nodes rows) None (Some TableTooShort))
    (Some LimitOutOfRange)

abbrev pub MadeIs : {T : Type 0} → ℕ → ℕ → T → Result SingleMemory (MakerRefusal × T) → Option MakerRefusal → Type 0
MadeIs nodes changes table (Ok s) None = SingleMeans s (fresh_single nodes changes)
MadeIs nodes changes table (Ok s) (Some e) = ⊥
MadeIs nodes changes table (Err p) None = ⊥
MadeIs nodes changes table (Err p) (Some e) = (p.0 ≡ e) × (p.1 ≡ table)
