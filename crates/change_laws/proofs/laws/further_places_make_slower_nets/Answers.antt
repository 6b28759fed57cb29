use Rattle.change_laws.proofs.Changing.{further_places}
use Rattle.change_laws.proofs.laws.further_places_make_slower_nets.Goals as goal

pub returns : goal.returns
returns c = further_places
