-- What a two-level list means.
--
--   two_level_items      its items, first to last
--   group_of             the number of an item's group
--   rank_of              the rank of an item in its group, which the rules leave free
--   two_level_blocks     the items, group by group
--   group_entries        the groups, first to last, each with its label
--   Kept                 the groups hold the items, each group has 1 to 32, and ranks rise along each
--   Started              the list has just been made
--   group_label_answer   the label of an item's group; refused 31
use Rattle.std.specs.Prelude.{◌≡◌, ℕ, cond, List, [], ◌∷◌, Ok, Err, vec_items, Result}
use Rattle.refusals.specs.declared.kinds.OrderRefusal.{OrderRefusal}
use Rattle.refusals.specs.declared.kinds.OrderRefusal.TheVariants.{UnknownItem}
use Rattle.order.specs.Items.{known}
use Rattle.labels.specs.Labels.{Entries, label_of, fresh}
use Rattle.relabelled.specs.Meaning.{relabelled_items, relabelled_entries}
use Rattle.grouping.specs.Blocks.{flat, Grouped}
use Rattle.grouping.specs.Groups.{blocked, group_at, rank_at}
use Rattle.linked_lists.specs.Chain.{listed}
use Rattle.two_level.specs.declared.list.TwoLevelList.{TwoLevelList}

-- the items, first to last
abbrev pub two_level_items : TwoLevelList → List ℕ
two_level_items o = listed (vec_items o.table.rows) o.table.count

-- the number of a's group
abbrev pub group_of : TwoLevelList → ℕ → ℕ
group_of o a = group_at (vec_items o.table.rows) a

-- the rank of a in its group
abbrev pub rank_of : TwoLevelList → ℕ → ℕ
rank_of o a = rank_at (vec_items o.table.rows) a

-- the items, group by group, the groups in their order
abbrev pub two_level_blocks : TwoLevelList → List (List ℕ)
two_level_blocks o = blocked (vec_items o.table.rows) (relabelled_items o.groups) o.table.count

-- the groups, first to last, each with its label
abbrev pub group_entries : TwoLevelList → Entries
group_entries o = relabelled_entries o.groups

-- the groups, one after the other, hold the items; each has 1 to 32, and along each the ranks rise
abbrev pub Kept : TwoLevelList → Type 0
Kept o = (flat (two_level_blocks o) ≡ two_level_items o) × Grouped (group_of o) (rank_of o) (relabelled_items o.groups) (two_level_blocks o)

-- the list holds item 0 alone, in group 0, whose label is 0, and has the limit
abbrev pub Started : TwoLevelList → ℕ → Type 0
Started o limit = (two_level_items o ≡ 0 ∷ []) × (two_level_blocks o ≡ (0 ∷ []) ∷ []) × (group_entries o ≡ fresh) × (o.table.limit ≡ limit) × Kept o

-- the label of a's group; 31 where a is unknown
abbrev pub group_label_answer : TwoLevelList → ℕ → Result ℕ OrderRefusal
group_label_answer o a = cond (known (two_level_items o) a) (Ok (label_of (group_entries o) (group_of o a))) (Err UnknownItem)
