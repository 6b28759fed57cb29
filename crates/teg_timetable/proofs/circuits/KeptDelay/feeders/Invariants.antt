use Rattle.teg_timetable.specs.WaysBack.{AreFeeders}
use Rattle.teg_timetable.proofs.circuits.KeptDelay.feeders.Given as goal

abbrev pub invariant-loop-index : goal.invariant-loop-index
invariant-loop-index l = AreFeeders l.self l.index l.feeders.items
