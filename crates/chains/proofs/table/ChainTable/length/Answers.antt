use Rattle.std.proofs.Common.{vec_items, sym, ap, ◌∙◌}
use Rattle.chain_rows.specs.declared.row.Chain.{Chain}
use Rattle.chains.proofs.Opened.{chain_is}
use Rattle.chain_rows.proofs.Puts.{chain_length}
use Rattle.chains.proofs.table.ChainTable.length.Goals as goal

pub returns : goal.returns
returns c =
    λ h.
    ap (λ (r : Chain). r.len) (chain_is c.args.self.now c.args.i c.index.result.now h c.index.ensures)
    ∙ sym (chain_length (vec_items c.args.self.now.rows) _ _)
