use Rattle.game_laws.proofs.Living.{fire_on}
use Rattle.game_laws.proofs.laws.live_nets_fire_on.Goals as goal

pub returns : goal.returns
returns c = fire_on
