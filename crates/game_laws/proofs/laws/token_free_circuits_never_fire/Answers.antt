use Rattle.game_laws.proofs.Living.{never_fire, shows_life}
use Rattle.game_laws.proofs.laws.token_free_circuits_never_fire.Goals as goal

pub returns-clause-never : goal.returns-clause-never
returns-clause-never c = never_fire

pub returns-clause-life : goal.returns-clause-life
returns-clause-life c = shows_life
