use Rattle.std.proofs.Common.{count_by, is_none}
use Rattle.teg_timetable.proofs.Trail.{Trail}
use Rattle.teg_timetable.proofs.circuits.KeptDelay.fed_circuit.Given as goal

abbrev pub invariant-walk : goal.invariant-walk
invariant-walk l = Trail l.self l.left.items l.trail.items l.at

abbrev pub decreases-walk : goal.decreases-walk
decreases-walk l = count_by is_none l.left.items
