use Rattle.game_laws.proofs.Reaching.{dates_earliest, never_none}
use Rattle.game_laws.proofs.laws.legal_runs_reach_least_dates.Goals as goal

pub returns-clause-dates : goal.returns-clause-dates
returns-clause-dates c = dates_earliest

pub returns-clause-never : goal.returns-clause-never
returns-clause-never c = never_none
