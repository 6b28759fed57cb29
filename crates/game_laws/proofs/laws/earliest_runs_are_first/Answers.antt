use Rattle.game_laws.proofs.Comparing.{earliest_first}
use Rattle.game_laws.proofs.laws.earliest_runs_are_first.Goals as goal

pub returns : goal.returns
returns c = earliest_first
