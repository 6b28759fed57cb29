use Rattle.dioid_matrix.proofs.Least.{stars_are_least}
use Rattle.dioid_matrix.proofs.star_is_least.Goals as goal

pub returns : goal.returns
returns g c = stars_are_least g.D.Dioid g.D.Kleene g.met.D.Dioid.closed g.met.D.Dioid.laws g.met.D.Kleene.star_laws
