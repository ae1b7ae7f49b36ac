use Rattle.std.proofs.Common.{rules}
use Rattle.std.proofs.lemmas.Iterator.Consumers.{nth_from_yields_List, YieldsList-from_first}
use Rattle.chain_rows.specs.Chains.{entry_of}
use Rattle.chain_rows.proofs.Looking.{nth_version}
use Rattle.chains.specs.Views.{entries_of}
use Rattle.chains.specs.Walks.{entries_left}
use Rattle.chains.proofs.table.ChainTable.version_of.Goals as goal

pub returns : goal.returns
returns c = λ h k.
    let es = entries_of c.args.self.now c.args.i in
    nth_version es c.args.k c.nth.result c.map_or.result _ _
    (nth_from_yields_List c.nth.result c.nth.new.self c.args.k c.nth.ensures.ran (YieldsList-from_first entry_of entries_left es c.walk.ensures.entries)) k
    c.map_or.ensures (λ row p. search rules)
