use Rattle.std.proofs.Common.{◌≡◌, Ok}
use Rattle.timetable_files.specs.TimetableFiles.{firsts_of}
use Rattle.timetable_files.proofs.tables.firsts.Given as goal

abbrev pub invariant-loop-t : goal.invariant-loop-t
invariant-loop-t l = firsts_of l.entries l.t ≡ Ok l.firsts.items
