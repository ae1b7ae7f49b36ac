use Rattle.text.specs.declared.split.Lines.{Lines}
use Rattle.text.proofs.Telling.{gives, progresses}
use Rattle.text.proofs.lines.LinesIterator.next.Goals as goal

pub returns : goal.returns
returns c =
    let after : Lines = record { parts = c.line.new.self } in
    let first = gives c.line.result c.args.self.now after c.line.ensures.line c.line.ensures.rest in
    record { steps = first; goes = progresses c.line.result c.args.self.now after first }
