use Rattle.game_laws.proofs.OnCircuits.{places_within}
use Rattle.game_laws.proofs.laws.places_hold_within_circuits.Goals as goal

pub returns : goal.returns
returns c = places_within
