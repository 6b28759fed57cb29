use Rattle.periodic_laws.proofs.Inside.{periodic_settle}
use Rattle.periodic_laws.proofs.laws.periodic_datings_settle.Goals as goal

pub returns : goal.returns
returns c = periodic_settle
