use Rattle.dioid_laws.proofs.ResidualFacts.{residual_identities}
use Rattle.dioid_laws.proofs.laws.residuals_are_lawful.Goals as goal

pub returns : goal.returns
returns g c = residual_identities g.D.Dioid g.D.Residuated g.met.D.Dioid.closed g.met.D.Dioid.laws g.met.D.Residuated.residual_laws
