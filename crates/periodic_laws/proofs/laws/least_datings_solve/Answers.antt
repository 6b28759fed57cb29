use Rattle.periodic_laws.proofs.OfNet.{solves}
use Rattle.periodic_laws.proofs.laws.least_datings_solve.Goals as goal

pub returns : goal.returns
returns c = solves c.gain_stars_are_least.ensures
