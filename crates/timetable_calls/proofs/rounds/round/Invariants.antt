use Rattle.timetable_calls.specs.Departures.{IsRoundUpTo}
use Rattle.timetable_calls.proofs.rounds.round.Given as goal

abbrev pub invariant-loop-index : goal.invariant-loop-index
invariant-loop-index l = IsRoundUpTo l.net l.scale l.period l.before l.index l.after.items
