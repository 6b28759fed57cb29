use Rattle.realization_laws.proofs.Periodic.{are_periodic}
use Rattle.realization_laws.proofs.laws.transfers_are_periodic.Goals as goal

pub returns : goal.returns
returns c = are_periodic c.walk_times_settle.ensures
