use Rattle.queues.proofs.Promises.{tops}
use Rattle.queues.proofs.top.Goals as goal

pub returns-clause-tops : goal.returns-clause-tops
returns-clause-tops g c = tops {s = c.args.work.now} c.top.ensures.runs.runs
