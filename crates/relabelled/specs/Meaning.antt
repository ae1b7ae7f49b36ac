-- What a relabelled list means.
--
--   relabelled_items     its items, first to last
--   relabelled_entries   the same, each with its label
use Rattle.std.specs.Prelude.{ℕ, List, vec_items}
use Rattle.labels.specs.Labels.{Entries}
use Rattle.linked_lists.specs.Chain.{listed, labelled}
use Rattle.relabelled.specs.declared.list.RelabelledList.{RelabelledList}

-- the items, first to last
abbrev pub relabelled_items : RelabelledList → List ℕ
relabelled_items o = listed (vec_items o.table.rows) o.table.count

-- the items, first to last, each with its label
abbrev pub relabelled_entries : RelabelledList → Entries
relabelled_entries o = labelled (vec_items o.table.rows) o.table.count
