use Rattle.counter_laws.proofs.Counting.{counters_exist, counters_one}
use Rattle.counter_laws.proofs.laws.counters_exist.Goals as goal

pub returns : goal.returns
returns c = record { exist = counters_exist; one = counters_one }
