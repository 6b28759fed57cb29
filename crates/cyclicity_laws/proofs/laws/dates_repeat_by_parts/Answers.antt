use Rattle.cyclicity_laws.proofs.Cyclic.{periods_divide_of_nets}
use Rattle.cyclicity_laws.proofs.RepeatsTowards.{repeat_by_parts}
use Rattle.cyclicity_laws.proofs.laws.dates_repeat_by_parts.Goals as goal

pub returns : goal.returns
returns c = record { dates = repeat_by_parts c.least_datings_repeat.ensures; periods = periods_divide_of_nets c.least_datings_repeat.ensures }
