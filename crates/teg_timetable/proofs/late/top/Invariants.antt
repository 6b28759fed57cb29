use Rattle.teg_timetable.proofs.late.top.Given as goal
use Rattle.teg_timetable.proofs.TopsUpTo.{IsTopUpTo}

abbrev pub invariant-loop-number : goal.invariant-loop-number
invariant-loop-number l = IsTopUpTo l.left l.transition.index l.number l.top
