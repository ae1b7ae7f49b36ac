use Rattle.std.proofs.Common.{sym, ◌∙◌}
use Rattle.linked_lists.proofs.Marked.{next_label_is}
use Rattle.relabelled.proofs.Opened.{chain}
use Rattle.relabelled.proofs.list.RelabelledList.end_of.Goals as goal

pub returns-in-Some : goal.returns-in-Some
returns-in-Some c = c.at-in-Some.ensures.row.tag 0 ∙ sym (next_label_is _ _ _ _ (chain c.args.self.now) c.requires (sym c.at.ensures.row.next ∙ c.in-Some.is))

pub returns-in-None : goal.returns-in-None
returns-in-None c = sym (next_label_is _ _ _ _ (chain c.args.self.now) c.requires (sym c.at.ensures.row.next ∙ c.in-None.is))
