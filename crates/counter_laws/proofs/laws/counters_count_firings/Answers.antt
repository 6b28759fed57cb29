use Rattle.counter_laws.proofs.CountedRuns.{counters_count}
use Rattle.counter_laws.proofs.laws.counters_count_firings.Goals as goal

pub returns : goal.returns
returns c = counters_count
