use Rattle.std.proofs.Common.{refl}
use Rattle.chain_rows.proofs.Walks.{versions_known}
use Rattle.chains.proofs.Opened.{chain_is, walkable}
use Rattle.chains.proofs.table.ChainTable.walk.Goals as goal

pub new-requires : goal.new-requires
new-requires c =
    let t = c.args.self.now in
    rw c.deref.ensures.value
    (walkable t c.args.i c.index.result.now c.requires (chain_is t c.args.i c.index.result.now c.requires c.index.ensures)).0

pub returns-clause-known : goal.returns-clause-known
returns-clause-known c =
    let t = c.args.self.now in
    versions_known t.versions _ _ _ (walkable t c.args.i _ c.requires refl).1
