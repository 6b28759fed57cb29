use Rattle.std.proofs.Common.{map}
use Rattle.answer_check.specs.ListReading.{AreReadRows}
use Rattle.answer_check.proofs.list_reading.rows_in.Given as goal

abbrev pub invariant-loop-before : goal.invariant-loop-before
invariant-loop-before l = AreReadRows l.width l.before (map (λ x. x.now) l.lines) l.dates.items
