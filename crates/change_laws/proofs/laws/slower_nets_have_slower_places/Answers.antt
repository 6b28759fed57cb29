use Rattle.change_laws.proofs.Changing.{slower_places}
use Rattle.change_laws.proofs.laws.slower_nets_have_slower_places.Goals as goal

pub returns : goal.returns
returns c = slower_places
