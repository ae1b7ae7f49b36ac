-- Worked figures of capacities and labels.
--
--   CapacityFigures   four capacities
--   LabelFigures      labels of items that were put right behind item 0
use Rattle.std.specs.Prelude.{◌≡◌}
use Rattle.labels.specs.Capacity.{capacity}
use Rattle.labels.specs.Labels.{label_of, behind_zero}

abbrev pub CapacityFigures : Type 0
CapacityFigures = (capacity 0 ≡ 1) × (capacity 3 ≡ 2) × (capacity 9 ≡ 13) × (capacity 31 ≡ 7466)

-- of two items, and of 32, the last of which has had the list spread around it
abbrev pub LabelFigures : Type 0
LabelFigures =
    (label_of (behind_zero 2) 1 ≡ 1073741824) × (label_of (behind_zero 2) 2 ≡ 536870912) × (label_of (behind_zero 32) 32 ≡ 46) × (label_of (behind_zero 32) 22 ≡ 512)
