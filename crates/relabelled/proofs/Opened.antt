-- What the invariants of a list give: its labels rise along its links.
use Rattle.std.proofs.Common.{vec_items}
use Rattle.linked_lists.proofs.Chains.{Chained, Rising, chained}
use Rattle.linked_lists.proofs.Open.{rising}
use Rattle.linked_lists.specs.Chain.{label_at}
use Rattle.relabelled.specs.declared.list.RelabelledList.{RelabelledList}

pub rises : (o : RelabelledList) → Rising (vec_items o.table.rows) (label_at (vec_items o.table.rows)) o.table.count o.table.limit
rises o = rising o.table.sound o.rising

pub chain : (o : RelabelledList) → Chained (vec_items o.table.rows) (label_at (vec_items o.table.rows)) o.table.count
chain o = chained (rises o)
