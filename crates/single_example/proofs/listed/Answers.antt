use Rattle.std.proofs.Common.{vec_len, sym, ap, ◌∙◌}
use Rattle.std.specs.Result.{result_ok}
use Rattle.memory.specs.Memory.{fresh_single}
use Rattle.single_example.proofs.Runs.{two_answer, made_ok}
use Rattle.single_example.proofs.listed.Goals as goal

pub returns : goal.returns
returns c =
    let made = made_ok c.args.table c.make.result c.in_ok-memory.memory (vec_len c.args.table) c.make.ensures (sym c.ok.ensures.value ∙ c.in_ok-memory.was) in
    let answer = two_answer (c.two_values.ensures.runs (fresh_single 2 160) made.1) in
    rw made.0 (c.ok-2.ensures.value ∙ ap result_ok answer)
