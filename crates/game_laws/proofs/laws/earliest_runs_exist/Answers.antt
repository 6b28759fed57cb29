use Rattle.game_laws.proofs.Gathering.{earliest_exist, each_rank_has, earliest_one}
use Rattle.game_laws.proofs.laws.earliest_runs_exist.Goals as goal

pub returns-clause-exist : goal.returns-clause-exist
returns-clause-exist c = earliest_exist

pub returns-clause-each_rank : goal.returns-clause-each_rank
returns-clause-each_rank c = each_rank_has

pub returns-clause-one : goal.returns-clause-one
returns-clause-one c = earliest_one
