use Rattle.teg_run.proofs.Promises.{keeps_promises}
use Rattle.teg_run.proofs.laws.runs_keep_promises.Goals as goal

pub returns : goal.returns
returns c = keeps_promises
