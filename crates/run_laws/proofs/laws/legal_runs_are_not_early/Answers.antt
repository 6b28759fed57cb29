use Rattle.run_laws.proofs.Least.{not_early}
use Rattle.run_laws.proofs.laws.legal_runs_are_not_early.Goals as goal

pub returns : goal.returns
returns c = not_early
