use Rattle.job_places.proofs.Stays.{queues_outlast, jobs_stay}
use Rattle.job_places.proofs.jobs_hold.Goals as goal

pub returns : goal.returns
returns g c = record { outlast = queues_outlast _; stay = jobs_stay }
