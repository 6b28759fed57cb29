use Rattle.dioid_laws.proofs.OrderFacts.{order_of_sums}
use Rattle.dioid_laws.proofs.laws.sums_are_ordered.Goals as goal

pub returns : goal.returns
returns g c = order_of_sums g.D.Dioid g.met.D.Dioid.closed g.met.D.Dioid.laws
