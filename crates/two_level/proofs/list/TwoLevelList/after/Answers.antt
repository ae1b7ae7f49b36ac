use Rattle.std.proofs.Common.{Ok, ap, sym, refl, ◌∙◌, rules}
use Rattle.grouping.proofs.Done.{never, size_few, ask_within, ask_distinct, final}
use Rattle.grouping.specs.Blocks.{blocks_with}
use Rattle.grouping.specs.Groups.{first_seat}
use Rattle.grouping.specs.declared.item.Seat.{Seat}
use Rattle.linked_lists.proofs.Decisions.{granted}
use Rattle.order.specs.Items.{behind}
use Rattle.relabelled.specs.Held.{items_distinct, items_within, items_few, entries_long}
use Rattle.relabelled.specs.Meaning.{relabelled_items, relabelled_entries}
use Rattle.two_level.proofs.Opened.{open_list}
use Rattle.two_level.specs.Meaning.{two_level_items, two_level_blocks}
use Rattle.two_level.proofs.list.TwoLevelList.after.Goals as goal

pub returns-in_err-check_after-clause-kept : goal.returns-in_err-check_after-clause-kept
returns-in_err-check_after-clause-kept c = let s = open_list c.args.self.now in (s.whole, s.blocks)

pub returns-in_err-fresh-clause-answer : goal.returns-in_err-fresh-clause-answer
returns-in_err-fresh-clause-answer c =
    let s = open_list c.args.self.now in
    let p = granted _ _ _ c.args.a s.list.table.links.long c.in_ok-check_after.ensures in
    let is = c.at.ensures.row.tag first_seat in
    let dis = items_distinct c.args.self.now.groups in
    absurd (never s c.args.a p.known p.room (items_within c.args.self.now.groups) _ _ _ (ap (λ (t : Seat). t.group) is)
    (sym c.in_err-fresh.was ∙ c.group_behind.ensures.answer))

pub returns-in_err-fresh-clause-kept : goal.returns-in_err-fresh-clause-kept
returns-in_err-fresh-clause-kept c =
    let s = open_list c.args.self.now in
    let p = granted _ _ _ c.args.a s.list.table.links.long c.in_ok-check_after.ensures in
    let is = c.at.ensures.row.tag first_seat in
    let dis = items_distinct c.args.self.now.groups in
    absurd (never s c.args.a p.known p.room (items_within c.args.self.now.groups) _ _ _ (ap (λ (t : Seat). t.group) is)
    (sym c.in_err-fresh.was ∙ c.group_behind.ensures.answer))

pub returns-in_err-fresh-clause-refused : goal.returns-in_err-fresh-clause-refused
returns-in_err-fresh-clause-refused c =
    let s = open_list c.args.self.now in
    let p = granted _ _ _ c.args.a s.list.table.links.long c.in_ok-check_after.ensures in
    let is = c.at.ensures.row.tag first_seat in
    let dis = items_distinct c.args.self.now.groups in
    absurd (never s c.args.a p.known p.room (items_within c.args.self.now.groups) _ _ _ (ap (λ (t : Seat). t.group) is)
    (sym c.in_err-fresh.was ∙ c.group_behind.ensures.answer))

pub size_of-size-requires-clause-few : goal.size_of-size-requires-clause-few
size_of-size-requires-clause-few c =
    let s = open_list c.args.self.now in
    let p = granted _ _ _ c.args.a s.list.table.links.long c.in_ok-check_after.ensures in
    let is = c.at.ensures.row.tag first_seat in
    let dis = items_distinct c.args.self.now.groups in
    size_few s c.args.a p.known p.room dis c.at.result.tag is c.first_of-first.result _ c.first_of-first.ensures.first refl

pub overflow_add-size : goal.overflow_add-size
overflow_add-size c =
    let s = open_list c.args.self.now in
    let p = granted _ _ _ c.args.a s.list.table.links.long c.in_ok-check_after.ensures in
    let is = c.at.ensures.row.tag first_seat in
    let dis = items_distinct c.args.self.now.groups in
    let z = size_few s c.args.a p.known p.room dis c.at.result.tag is c.first_of-first.result c.size_of-size.result c.first_of-first.ensures.first c.size_of-size.ensures in
    search rules

pub regroup-requires-clause-within : goal.regroup-requires-clause-within
regroup-requires-clause-within c =
    let s = open_list c.args.self.now in
    let p = granted _ _ _ c.args.a s.list.table.links.long c.in_ok-check_after.ensures in
    let is = c.at.ensures.row.tag first_seat in
    let dis = items_distinct c.args.self.now.groups in
    ask_within s c.args.a p.known p.room dis c.at.result.tag is c.first_of-first.result c.size_of-size.result c.first_of-first.ensures.first c.size_of-size.ensures _ c.link-n.ensures.rows _ c.link-n.ensures.count

pub regroup-requires-clause-distinct : goal.regroup-requires-clause-distinct
regroup-requires-clause-distinct c =
    let s = open_list c.args.self.now in
    let p = granted _ _ _ c.args.a s.list.table.links.long c.in_ok-check_after.ensures in
    let is = c.at.ensures.row.tag first_seat in
    let dis = items_distinct c.args.self.now.groups in
    ask_distinct s c.args.a p.known p.room dis c.at.result.tag is c.first_of-first.result c.size_of-size.result c.first_of-first.ensures.first c.size_of-size.ensures _ c.link-n.ensures.rows _ c.link-n.ensures.count

pub invariant_of-self-2 : goal.invariant_of-self-2
invariant_of-self-2 c =
    let s = open_list c.args.self.now in
    let p = granted _ _ _ c.args.a s.list.table.links.long c.in_ok-check_after.ensures in
    let is = c.at.ensures.row.tag first_seat in
    let dis = items_distinct c.args.self.now.groups in
    let d =
    final s c.args.a p.known p.room dis c.at.result.tag is c.first_of-first.result c.size_of-size.result c.first_of-first.ensures.first c.size_of-size.ensures
    _ c.link-n.ensures.rows _ c.link-n.ensures.count (items_within c.args.self.now.groups) c.in_ok-fresh.fresh c.group_behind.result c.in_ok-fresh.was
    (relabelled_items c.group_behind.new.groups) c.group_behind.new.groups.table.limit (relabelled_entries c.args.self.now.groups) (relabelled_entries c.group_behind.new.groups)
    (entries_long c.args.self.now.groups) c.group_behind.ensures.answer c.group_behind.ensures.items c.group_behind.ensures.labels c.group_behind.ensures.limit
    (items_distinct c.group_behind.new.groups) (items_few c.group_behind.new.groups)
    _ c.regroup.ensures.rows _ _ c.regroup.ensures.count (c.regroup.ensures.limit ∙ c.link-n.ensures.limit) in
    record { sound = ∣ d.sound ∣₁ }

pub returns : goal.returns
returns c =
    let s = open_list c.args.self.now in
    let p = granted _ _ _ c.args.a s.list.table.links.long c.in_ok-check_after.ensures in
    let is = c.at.ensures.row.tag first_seat in
    let dis = items_distinct c.args.self.now.groups in
    let d =
    final s c.args.a p.known p.room dis c.at.result.tag is c.first_of-first.result c.size_of-size.result c.first_of-first.ensures.first c.size_of-size.ensures
    _ c.link-n.ensures.rows _ c.link-n.ensures.count (items_within c.args.self.now.groups) c.in_ok-fresh.fresh c.group_behind.result c.in_ok-fresh.was
    (relabelled_items c.group_behind.new.groups) c.group_behind.new.groups.table.limit (relabelled_entries c.args.self.now.groups) (relabelled_entries c.group_behind.new.groups)
    (entries_long c.args.self.now.groups) c.group_behind.ensures.answer c.group_behind.ensures.items c.group_behind.ensures.labels c.group_behind.ensures.limit
    (items_distinct c.group_behind.new.groups) (items_few c.group_behind.new.groups)
    _ c.regroup.ensures.rows _ _ c.regroup.ensures.count (c.regroup.ensures.limit ∙ c.link-n.ensures.limit) in
    record {
      answer = ap Ok c.link-n.ensures.number ∙ p.answer;
      items = d.items ∙ ap (behind (two_level_items c.args.self.now) c.args.a) (sym c.link-n.ensures.number);
      blocks = d.blocks ∙ ap (blocks_with (two_level_blocks c.args.self.now) c.args.a) (sym c.link-n.ensures.number);
      labels = d.labels;
      kept = (d.sound.whole, d.sound.blocks);
      limit = c.regroup.ensures.limit ∙ c.link-n.ensures.limit;
      refused = tt;
    }
