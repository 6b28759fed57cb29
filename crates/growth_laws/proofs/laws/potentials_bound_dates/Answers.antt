use Rattle.growth_laws.proofs.DateLines.{bound_dates, have_lines}
use Rattle.growth_laws.proofs.laws.potentials_bound_dates.Goals as goal

pub returns : goal.returns
returns c = record { bound = bound_dates; starts = have_lines }
