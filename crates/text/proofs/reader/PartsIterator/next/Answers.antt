use Rattle.std.proofs.Common.{rules}
use Rattle.text.proofs.Cuts.{parts_left}
use Rattle.text.proofs.reader.PartsIterator.next.Goals as goal

pub returns : goal.returns
returns c =
    let all = parts_left c.args.self.now.separator c.args.self.now.rest c.in_ok-text.text c.in_ok-text.was in
    search (rules, all)
