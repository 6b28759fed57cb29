use Rattle.periodic_laws.proofs.OfNet.{repeats}
use Rattle.periodic_laws.proofs.laws.least_datings_repeat.Goals as goal

pub returns : goal.returns
returns c = repeats c.gain_stars_are_least.ensures
