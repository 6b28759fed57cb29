use Rattle.dating_laws.proofs.OrderOfDatings.{least_join}
use Rattle.dating_laws.proofs.laws.releases_are_superposed.Goals as goal

pub returns : goal.returns
returns c = least_join
