use Rattle.game_laws.proofs.Comparing.{earliest_alike}
use Rattle.game_laws.proofs.Numbering.{earliest_whole}
use Rattle.game_laws.proofs.laws.earliest_runs_are_whole.Goals as goal

pub returns-clause-whole : goal.returns-clause-whole
returns-clause-whole c = earliest_whole

pub returns-clause-alike : goal.returns-clause-alike
returns-clause-alike c = earliest_alike
