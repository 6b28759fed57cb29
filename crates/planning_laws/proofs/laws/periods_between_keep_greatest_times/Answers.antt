use Rattle.planning_laws.proofs.PeriodsBetween.{periods_between}
use Rattle.planning_laws.proofs.laws.periods_between_keep_greatest_times.Goals as goal

pub returns : goal.returns
returns c = periods_between
