-- What every relabelled list is, for those who hold one.
use Rattle.std.specs.Prelude.{◌≡◌, ℕ, ◌<◌, ◌≤◌, true, [], ◌∷◌, length}
use Rattle.std.proofs.Common.{ap, sym, ◌∙◌}
use Rattle.labels.specs.Labels.{fresh, items_of}
use Rattle.linked_lists.proofs.Marked.{unmark}
use Rattle.linked_lists.proofs.Held.{table_distinct, table_limit, table_few, table_known, table_within, table_numbered}
use Rattle.order.specs.Items.{known, member, Distinct}
use Rattle.relabelled.specs.Meaning.{relabelled_items, relabelled_entries}
use Rattle.relabelled.specs.declared.list.RelabelledList.{RelabelledList}
use Rattle.std.proofs.lemmas.List.{length-map}

pub items_distinct : (o : RelabelledList) → Distinct (relabelled_items o)
items_distinct o = table_distinct o.table.sound

pub items_known : (o : RelabelledList) (g : ℕ) → g < length (relabelled_items o) → member (relabelled_items o) g ≡ true
items_known o = table_known o.table.sound

pub items_within : (o : RelabelledList) (g : ℕ) → member (relabelled_items o) g ≡ true → g < length (relabelled_items o)
items_within o = table_within o.table.sound

pub items_few : (o : RelabelledList) → length (relabelled_items o) ≤ 4096
items_few o = table_few o.table.sound

pub items_limit : (o : RelabelledList) → length (relabelled_items o) ≤ o.table.limit
items_limit o = table_limit o.table.sound

pub items_numbered : (o : RelabelledList) (a : ℕ) → member (relabelled_items o) a ≡ known (relabelled_items o) a
items_numbered o = table_numbered o.table.sound

pub items_fresh : (o : RelabelledList) → relabelled_entries o ≡ fresh → relabelled_items o ≡ 0 ∷ []
items_fresh o h = sym (unmark _ (relabelled_items o)) ∙ ap items_of h

pub entries_long : (o : RelabelledList) → length (relabelled_entries o) ≡ length (relabelled_items o)
entries_long o = length-map (relabelled_items o) _
