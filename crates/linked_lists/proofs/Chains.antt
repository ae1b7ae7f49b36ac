-- A table along which labels rise: what its links and its labels say together.
use Rattle.std.proofs.Common.{ℕ, List, Option}
use Rattle.linked_lists.specs.Chain.{Above, Links, Sound, listed, next_at, prev_at}
use Rattle.linked_lists.specs.declared.row.Row.{Row}

-- xs holds the items below n, each once, in the order of links and labels
pub record Chain (f p : ℕ → Option ℕ) (lab : ℕ → ℕ) (n : ℕ) (xs : List ℕ) : Type 0 where
  pub links : Links f p n xs
  pub rising : Above lab 0 xs

-- the rows hold a chain of n items, along which lab rises
abbrev pub Chained : {T : Type 0} → List (Row T) → (ℕ → ℕ) → ℕ → Type 0
Chained rows lab n = Chain (next_at rows) (prev_at rows) lab n (listed rows n)

-- the rows of a table along which lab rises
pub record Rising {T : Type 0} (rows : List (Row T)) (lab : ℕ → ℕ) (count limit : ℕ) : Type 0 where
  pub table : Sound rows count limit
  pub rising : Above lab 0 (listed rows count)

pub chained : {T : Type 0} {rows : List (Row T)} {lab : ℕ → ℕ} {count limit : ℕ} → Rising rows lab count limit → Chained rows lab count
chained r = record { links = r.table.links; rising = r.rising }
