use Rattle.game_laws.proofs.OnCircuits.{tokens_stay}
use Rattle.game_laws.proofs.laws.tokens_on_circuits_stay.Goals as goal

pub returns : goal.returns
returns c = tokens_stay
