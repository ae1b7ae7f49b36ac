-- What every two-level list is, for those who hold one.
use Rattle.std.specs.Prelude.{◌≡◌, ℕ, ◌≤◌, length}
use Rattle.linked_lists.proofs.Held.{table_distinct, table_limit, table_numbered}
use Rattle.order.specs.Items.{member, Distinct, known}
use Rattle.two_level.specs.Meaning.{two_level_items}
use Rattle.two_level.specs.declared.list.TwoLevelList.{TwoLevelList}

pub order_distinct : (o : TwoLevelList) → Distinct (two_level_items o)
order_distinct o = table_distinct o.table.sound

pub order_limit : (o : TwoLevelList) → length (two_level_items o) ≤ o.table.limit
order_limit o = table_limit o.table.sound

pub order_numbered : (o : TwoLevelList) (a : ℕ) → member (two_level_items o) a ≡ known (two_level_items o) a
order_numbered o = table_numbered o.table.sound
