use Rattle.periodic_laws.proofs.OfNet.{live_settles}
use Rattle.periodic_laws.proofs.laws.live_nets_settle.Goals as goal

pub returns : goal.returns
returns c = live_settles c.gain_stars_are_least.ensures
