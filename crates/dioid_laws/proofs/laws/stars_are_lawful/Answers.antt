use Rattle.dioid_laws.proofs.StarFacts.{star_identities}
use Rattle.dioid_laws.proofs.laws.stars_are_lawful.Goals as goal

pub returns : goal.returns
returns g c = star_identities g.D.Dioid g.D.Kleene g.met.D.Dioid.closed g.met.D.Dioid.laws g.met.D.Kleene.star_laws
