-- Items in groups: the groups first to last, each with its items first to last.
--
--   flat                  the items of all groups, first to last
--   divided               a group that would reach 33 keeps its first 16 and puts 17 into a new group right behind
--   blocks_with           the groups with a new item right behind another, in its group
--   blocks_after          the groups after a call that answered with a new item's number or was refused
--   home                  the items of the group that has an item
--   group_entries_after   the groups with their labels after such a call
--   in_group, blocks_of   the items of a list, group by group
--   Inside, Ranks         the items of a group lie in it, and their ranks rise
--   Block, Grouped        the items of a group, and of all groups
use Rattle.std.specs.Prelude.{◌≡◌, ℕ, suc, ◌<◌, ◌≤◌, cond, List, [], ◌∷◌, ◌++◌, length, take, drop, Ok, Err, Result, ◌==◌, nat_lt}
use Rattle.order.specs.Items.{member, behind}
use Rattle.labels.specs.Labels.{Entries, inserted}

-- the items of all groups, first to last
abbrev pub flat : List (List ℕ) → List ℕ
flat [] = []
flat (b ∷ bs) = b ++ flat bs

-- the group b before the groups bs: where it has more than 32 items, it keeps its first 16, and the others are a new group right behind
abbrev pub divided : List ℕ → List (List ℕ) → List (List ℕ)
divided b bs = cond (nat_lt 32 (length b)) (take 16 b ∷ (drop 16 b ∷ bs)) (b ∷ bs)

-- the groups with n right behind a, in the group of a
abbrev pub blocks_with : List (List ℕ) → ℕ → ℕ → List (List ℕ)
blocks_with [] a n = []
blocks_with (b ∷ bs) a n = cond (member b a) (divided (behind b a n) bs) (b ∷ blocks_with bs a n)

-- the groups after a call that answered with the number of a new item behind a, or was refused for any reason
abbrev pub blocks_after : {E : Type 0} → Result ℕ E → List (List ℕ) → ℕ → List (List ℕ)
blocks_after (Ok n) bs a = blocks_with bs a n
blocks_after (Err e) bs a = bs

-- the items of the group that has a
abbrev pub home : List (List ℕ) → ℕ → List ℕ
home [] a = []
home (b ∷ bs) a = cond (member b a) b (home bs a)

-- the groups es, each with its label, after such a call, the group of a being number g among the groups bs:
-- where that group had 32 items, a new group, numbered by the count of groups, stands right behind it
abbrev pub group_entries_after : {E : Type 0} → Result ℕ E → Entries → List (List ℕ) → ℕ → ℕ → Entries
group_entries_after (Ok n) es bs a g = cond (nat_lt 31 (length (home bs a))) (inserted es g (length es)) es
group_entries_after (Err e) es bs a g = es

-- the items of xs that lie in the group g
abbrev pub in_group : (ℕ → ℕ) → ℕ → List ℕ → List ℕ
in_group grp g [] = []
in_group grp g (x ∷ xs) = cond (grp x == g) (x ∷ in_group grp g xs) (in_group grp g xs)

-- the items of xs, group by group
abbrev pub blocks_of : (ℕ → ℕ) → List ℕ → List ℕ → List (List ℕ)
blocks_of grp [] xs = []
blocks_of grp (g ∷ gs) xs = in_group grp g xs ∷ blocks_of grp gs xs

-- all of them lie in the group g
abbrev pub Inside : (ℕ → ℕ) → ℕ → List ℕ → Type 0
Inside grp g [] = Unit {0}
Inside grp g (x ∷ xs) = (grp x ≡ g) × Inside grp g xs

-- the ranks rise strictly, from lo on, below 64
abbrev pub Ranks : (ℕ → ℕ) → ℕ → List ℕ → Type 0
Ranks rank lo [] = lo ≤ 64
Ranks rank lo (x ∷ xs) = (lo ≤ rank x) × Ranks rank (suc (rank x)) xs

-- the group g has the items b, 1 to 32 of them, their ranks rising
pub record Block (grp rank : ℕ → ℕ) (g : ℕ) (b : List ℕ) : Type 0 where
  pub all : Inside grp g b
  pub ranks : Ranks rank 0 b
  pub some : 0 < length b
  pub few : length b ≤ 32

-- the groups gs have the items bs
abbrev pub Grouped : (ℕ → ℕ) → (ℕ → ℕ) → List ℕ → List (List ℕ) → Type 0
Grouped grp rank [] [] = Unit {0}
Grouped grp rank [] (b ∷ bs) = ⊥
Grouped grp rank (g ∷ gs) [] = ⊥
Grouped grp rank (g ∷ gs) (b ∷ bs) = Block grp rank g b × Grouped grp rank gs bs
