use Rattle.std.proofs.Common.{arith}
use Rattle.linked_lists.proofs.Walks.{run_counted}
use Rattle.relabelled.proofs.Opened.{chain}
use Rattle.relabelled.proofs.list.RelabelledList.count_in.Goals as goal

pub returns : goal.returns
returns c = run_counted _ _ c.args.base c.args.size _ _ (λ l p. grind (arith, p)) (λ l p. grind (arith, p)) c.args.first _ c.run_while.ensures (chain c.args.self.now) c.requires.known c.requires.from c.requires.starts
