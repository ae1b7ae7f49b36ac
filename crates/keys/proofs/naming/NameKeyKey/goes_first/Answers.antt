use Rattle.std.proofs.Common.{rules}
use Rattle.keys.specs.BytesLemmas.{first_if_less}
use Rattle.keys.proofs.naming.NameKeyKey.goes_first.Goals as goal

pub returns : goal.returns
returns c = search (rules, first_if_less)
