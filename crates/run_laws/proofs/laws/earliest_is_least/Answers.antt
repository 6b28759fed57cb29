use Rattle.run_laws.proofs.Least.{earliest_least}
use Rattle.run_laws.proofs.laws.earliest_is_least.Goals as goal

pub returns : goal.returns
returns c = earliest_least
