-- Copies that are the same as far as they count: a table's rows say nothing of copies that are not there.
--
--   SameCopies                                      as many copies, nodes and versions, and each copy that is there is the same
--   world_with, memory_with                         a world and a memory with other copies
--   SameSound, SameThreaded, SameKept, SameStands   what holds of one holds of the other
use Rattle.std.specs.Prelude.{◌≡◌, ℕ, ◌<◌, List, Option}
use Rattle.memory.specs.Memory.{Memory}
use Rattle.slices.specs.Copies.{Copies, Sound}
use Rattle.slices.specs.Threads.{Threaded}
use Rattle.space.specs.Runs.{World, Kept}
use Rattle.meaning.specs.Tables.{Splitting}
use Rattle.meaning.specs.Meaning.{Stands}

pub record SameCopies (M D : Copies) : Type 0 where
  pub total : D.total ≡ M.total
  pub made : D.made ≡ M.made
  pub versions : D.versions ≡ M.versions
  pub copy : (i : ℕ) → i < M.total → D.copy i ≡ M.copy i

abbrev pub world_with : World → Copies → World
world_with W D = record { order = W.order; copies = D; states = W.states; splits = W.splits; linked = W.linked; numbered = W.numbered; used = W.used }

abbrev pub memory_with : Splitting → Copies → Splitting
memory_with T D = record {
  copies = D;
  regs = T.regs;
  working = T.working;
  draft = T.draft;
  linked = T.linked;
  numbered = T.numbered;
  used = T.used;
  node_limit = T.node_limit;
  change_limit = T.change_limit;
}

abbrev pub SameSound : Type 0
SameSound = (pos : ℕ → ℕ) (M D : Copies) → SameCopies M D → Sound pos M → Sound pos D

abbrev pub SameThreaded : Type 0
SameThreaded = (pos : ℕ → ℕ) (M D : Copies) (next : ℕ → Option ℕ) → SameCopies M D → Threaded pos M next → Threaded pos D next

abbrev pub SameKept : Type 0
SameKept = (W : World) (D : Copies) → SameCopies W.copies D → Kept W → Kept (world_with W D)

abbrev pub SameStands : Type 0
SameStands = (xs : List ℕ) (T : Splitting) (D : Copies) (m : Memory) → SameCopies T.copies D → Stands xs T m → Stands xs (memory_with T D) m
