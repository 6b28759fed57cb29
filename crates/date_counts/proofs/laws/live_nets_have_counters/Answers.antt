use Rattle.date_counts.proofs.LiveCounters.{counters_of_live, counters_tell}
use Rattle.date_counts.proofs.laws.live_nets_have_counters.Goals as goal

pub returns : goal.returns
returns c = record { exist = counters_of_live c.least_datings_repeat.ensures; dates = counters_tell }
