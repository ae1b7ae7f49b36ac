use Rattle.std.proofs.Common.{vec_items, arith}
use Rattle.grouping.proofs.Loops.{run_is}
use Rattle.two_level.proofs.list.TwoLevelList.size_of.Goals as goal

pub returns : goal.returns
returns c = run_is (vec_items c.args.self.now.table.rows) _ _ c.args.group (λ t p. grind (arith, p)) (λ t p e. grind (arith, p, e)) 33 _ _ c.run_while.ensures (omega (arith, c.requires.few))
