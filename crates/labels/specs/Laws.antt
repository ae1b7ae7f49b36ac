-- The laws of the labels, for lists of up to 4096 items.
--
--   Rising          the labels of a list rise strictly, below 2 ^ 31
--   AlwaysRoom      some aligned range can always take one item more
--   SmallestRange   the range that is taken is the smallest that can
--   LabelsRise      a new item leaves the labels rising
use Rattle.std.specs.Prelude.{◌≡◌, ℕ, suc, ◌^◌, ◌<◌, ◌≤◌, true, [], ◌∷◌, length}
use Rattle.order.specs.Items.{member}
use Rattle.labels.specs.Capacity.{capacity}
use Rattle.labels.specs.Labels.{Entries, items_of, crowd, width, inserted}

-- the labels rise strictly, from lo on, and are all below 2 ^ 31
abbrev pub Rising : ℕ → Entries → Type 0
Rising lo [] = lo ≤ 2 ^ 31
Rising lo (e ∷ es) = (lo ≤ e.1) × Rising (suc e.1) es

-- the range that is taken holds its items and one more, and is one of the 32
abbrev pub AlwaysRoom : Type 0
AlwaysRoom = (es : Entries) (l : ℕ) → length es ≤ 4096 → (crowd es l (width es l) ≤ capacity (width es l)) × (width es l < 32)

-- no smaller range can take one item more
abbrev pub SmallestRange : Type 0
SmallestRange = (es : Entries) (l i : ℕ) → i < width es l → capacity i < crowd es l i

-- where the labels rise, they rise once a new item was put right behind one of the items
abbrev pub LabelsRise : Type 0
LabelsRise = (es : Entries) (a n : ℕ) → length es ≤ 4096 → member (items_of es) a ≡ true → Rising 0 es → Rising 0 (inserted es a n)
