-- What the invariants of a list give: its keys rise along its links, and the groups hold its items.
use Rattle.std.proofs.Common.{vec_items}
use Rattle.grouping.proofs.Open.{Opened, opened}
use Rattle.relabelled.specs.Meaning.{relabelled_items}
use Rattle.two_level.specs.declared.list.TwoLevelList.{TwoLevelList}

pub open_list : (o : TwoLevelList) → Opened (vec_items o.table.rows) (relabelled_items o.groups) o.groups.table.limit o.table.count o.table.limit
open_list o = opened o.table.sound o.sound
