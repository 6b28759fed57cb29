use Rattle.cyclicity_laws.proofs.Rounds.{common_by_parts}
use Rattle.cyclicity_laws.proofs.Cyclic.{periods_divide}
use Rattle.cyclicity_laws.proofs.laws.periods_divide_by_parts.Goals as goal

pub returns : goal.returns
returns c = record { periods = periods_divide c.least_datings_repeat.ensures; single = common_by_parts }
