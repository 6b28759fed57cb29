use Rattle.std.proofs.Common.{take}
use Rattle.timetable_files.specs.Departures.{AreDepartures}
use Rattle.timetable_files.proofs.tables.departures.Given as goal

abbrev pub invariant-loop-entry : goal.invariant-loop-entry
invariant-loop-entry l = AreDepartures l.fn.width (take l.entry-index l.entries) l.cells.items
