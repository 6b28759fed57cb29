use Rattle.game_laws.proofs.FillingUp.{fill_up}
use Rattle.game_laws.proofs.laws.places_fill_up.Goals as goal

pub returns : goal.returns
returns c = fill_up
