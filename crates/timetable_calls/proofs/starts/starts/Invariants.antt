use Rattle.teg_net.specs.Limits.{greatest_input_date}
use Rattle.timetable_calls.specs.Departures.{AreStarts}
use Rattle.timetable_calls.proofs.starts.starts.Given as goal

abbrev pub invariant-loop-index : goal.invariant-loop-index
invariant-loop-index l = AreStarts l.net l.scale l.period greatest_input_date l.index l.firsts.items
