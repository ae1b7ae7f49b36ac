-- Walks along the links of a table over items that carry what passes a test.
--
--   Carries   what an item carries meets P
--   Passed    so many items from o on meet P, one after another, and behind them the links lead to e
--   Led       so many steps lead from a to x, each to an item that meets P
--   Run       so many items from o on carry what meets Yes, and then one meets No or there is none
--   Back      x is reached from a by links back to items that meet Yes, and before x one meets No or there is none
use Rattle.std.specs.Prelude.{◌≡◌, ℕ, zero, suc, List, Some, Option}
use Rattle.linked_lists.specs.declared.row.Row.{Row}
use Rattle.linked_lists.specs.Chain.{tag_at, next_at, prev_at}

-- what item x carries meets P
pub record Carries {T : Type 0} (P : T → Type 0) (rows : List (Row T)) (x : ℕ) : Type 0 where
  pub tag : (d : T) → P (tag_at d rows x)

-- by the links f, k items from o on meet P, one after another, and e is what stands behind them
abbrev pub Passed : (ℕ → Option ℕ) → (ℕ → Type 0) → ℕ → Option ℕ → Option ℕ → Type 0
Passed f P zero o e = o ≡ e
Passed f P (suc k) o e = (x : ℕ) × (o ≡ Some x) × P x × Passed f P k (f x) e

-- by the links f, k steps lead from a to x, each to an item that meets P
abbrev pub Led : (ℕ → Option ℕ) → (ℕ → Type 0) → ℕ → ℕ → ℕ → Type 0
Led f P zero a x = a ≡ x
Led f P (suc k) a x = (y : ℕ) × (f a ≡ Some y) × P y × Led f P k y x

-- k items from o on carry what meets Yes, one after another, and behind them is one that meets No, or none
pub record Run {T : Type 0} (Yes No : T → Type 0) (rows : List (Row T)) (o : Option ℕ) (k : ℕ) : Type 0 where
  pub end : Option ℕ
  pub passed : Passed (next_at rows) (Carries Yes rows) k o end
  pub stops : (x : ℕ) → end ≡ Some x → Carries No rows x

-- back from a, over items that meet Yes, one comes to x, and before x is one that meets No, or none
pub record Back {T : Type 0} (Yes No : T → Type 0) (rows : List (Row T)) (a x : ℕ) : Type 0 where
  pub steps : ℕ
  pub led : Led (prev_at rows) (Carries Yes rows) steps a x
  pub stops : (y : ℕ) → prev_at rows x ≡ Some y → Carries No rows y
