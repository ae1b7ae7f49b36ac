-- Laws of the list that a version order means.
--
--   BeforeIsAnOrder       no item is before itself; before is transitive; of two different items one is before the other
--   NewItemPartsNothing   a new item leaves the others in their order
use Rattle.std.specs.Prelude.{◌≡◌, ℕ, true, false, ◌⊎◌, List, ◌≢◌}
use Rattle.order.specs.Items.{member, Distinct, earlier, behind}

-- in a list without repeats, standing earlier is a strict total order of the items
abbrev pub BeforeIsAnOrder : Type 0
BeforeIsAnOrder = (xs : List ℕ) → Distinct xs →
    ((a : ℕ) → earlier xs a a ≡ false)
    × ((a b c : ℕ) → earlier xs a b ≡ true → earlier xs b c ≡ true → earlier xs a c ≡ true)
    × ((a b : ℕ) → member xs a ≡ true → member xs b ≡ true → (a ≢ b) → (earlier xs a b ≡ true) ⊎ (earlier xs b a ≡ true))

-- a new item n, wherever it is put, leaves the order of all others
abbrev pub NewItemPartsNothing : Type 0
NewItemPartsNothing = (xs : List ℕ) (a n x y : ℕ) → Distinct xs → (member xs n ≢ true) → (x ≢ n) → (y ≢ n) →
    earlier (behind xs a n) x y ≡ earlier xs x y
