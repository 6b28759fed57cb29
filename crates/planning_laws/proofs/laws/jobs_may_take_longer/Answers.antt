use Rattle.planning_laws.proofs.LongerJobs.{jobs_stay}
use Rattle.planning_laws.proofs.laws.jobs_may_take_longer.Goals as goal

pub returns : goal.returns
returns c = jobs_stay
