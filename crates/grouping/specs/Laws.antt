-- The laws of groups.
--
--   GroupsHoldTheList   a new item stands right behind the other in the list that the groups hold
--   Small               all groups have 1 to 32 items
--   GroupsStaySmall     they still have after a new item
use Rattle.std.specs.Prelude.{◌≡◌, ℕ, ◌<◌, ◌≤◌, List, [], ◌∷◌, length}
use Rattle.order.specs.Items.{Distinct, behind}
use Rattle.grouping.specs.Blocks.{flat, blocks_with}

-- a new item in its group, divided or not, stands right behind the other in the whole list
abbrev pub GroupsHoldTheList : Type 0
GroupsHoldTheList = (bs : List (List ℕ)) (a n : ℕ) → Distinct (flat bs) → flat (blocks_with bs a n) ≡ behind (flat bs) a n

-- each group has 1 to 32 items
abbrev pub Small : List (List ℕ) → Type 0
Small [] = Unit {0}
Small (b ∷ bs) = (0 < length b) × (length b ≤ 32) × Small bs

abbrev pub GroupsStaySmall : Type 0
GroupsStaySmall = (bs : List (List ℕ)) (a n : ℕ) → Small bs → Small (blocks_with bs a n)
