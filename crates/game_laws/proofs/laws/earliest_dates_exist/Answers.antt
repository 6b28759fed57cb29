use Rattle.game_laws.proofs.Outcomes.{earliest_dates_exist}
use Rattle.game_laws.proofs.laws.earliest_dates_exist.Goals as goal

pub returns : goal.returns
returns c = earliest_dates_exist
