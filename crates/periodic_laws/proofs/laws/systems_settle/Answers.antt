use Rattle.periodic_laws.proofs.OfNet.{systems_periodic, systems_settle}
use Rattle.periodic_laws.proofs.laws.systems_settle.Goals as goal

pub returns : goal.returns
returns c = record { periodic = systems_periodic c.gain_stars_are_least.ensures; settles = systems_settle c.gain_stars_are_least.ensures }
