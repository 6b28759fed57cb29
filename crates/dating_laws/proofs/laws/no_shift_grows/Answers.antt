use Rattle.dating_laws.proofs.OrderOfDatings.{no_shift_grows}
use Rattle.dating_laws.proofs.laws.no_shift_grows.Goals as goal

pub returns : goal.returns
returns c = no_shift_grows
