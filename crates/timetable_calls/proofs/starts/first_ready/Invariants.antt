use Rattle.timetable_calls.specs.Departures.{IsFirstReady}
use Rattle.timetable_calls.proofs.starts.first_ready.Given as goal

abbrev pub invariant-loop-index : goal.invariant-loop-index
invariant-loop-index l = IsFirstReady l.scale l.period l.ready l.index l.first
