use Rattle.teg_net.specs.Limits.{greatest_hold, greatest_input_date}
use Rattle.timetable_calls.specs.Departures.{AreRounded}
use Rattle.timetable_calls.proofs.rounds.earliest_firsts.Given as goal

abbrev pub invariant-loop-number : goal.invariant-loop-number
invariant-loop-number l = AreRounded l.net l.scale l.period greatest_input_date greatest_hold l._number l.firsts.items
