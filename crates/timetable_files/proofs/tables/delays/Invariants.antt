use Rattle.std.proofs.Common.{◌≡◌, take}
use Rattle.timetable_files.specs.TimetableFiles.{delays_of}
use Rattle.timetable_files.proofs.tables.delays.Given as goal

abbrev pub invariant-loop-entry : goal.invariant-loop-entry
invariant-loop-entry l = l.delays.items ≡ delays_of (take l.entry-index l.entries)
