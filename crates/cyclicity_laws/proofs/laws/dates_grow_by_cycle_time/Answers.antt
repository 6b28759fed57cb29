use Rattle.cyclicity_laws.proofs.Cyclic.{grow_by_cycle_time}
use Rattle.cyclicity_laws.proofs.laws.dates_grow_by_cycle_time.Goals as goal

pub returns : goal.returns
returns c = grow_by_cycle_time c.least_datings_repeat.ensures
