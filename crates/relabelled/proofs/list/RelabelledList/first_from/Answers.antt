use Rattle.std.proofs.Common.{arith, rules}
use Rattle.linked_lists.proofs.Walks.{back_from, back_first}
use Rattle.relabelled.proofs.Opened.{chain}
use Rattle.relabelled.proofs.list.RelabelledList.first_from.Goals as goal

pub returns-clause-first : goal.returns-clause-first
returns-clause-first c = back_first c.back_while.ensures.back _ c.args.base (λ l p. grind (arith, p)) (λ l p. search rules) c.requires.from (chain c.args.self.now) c.back_while.ensures.known

pub returns-clause-from : goal.returns-clause-from
returns-clause-from c = back_from c.back_while.ensures.back c.args.self.now.table.count c.args.base (λ l p. grind (arith, p)) (λ l p. search rules) c.requires.from
