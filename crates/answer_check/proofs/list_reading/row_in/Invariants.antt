use Rattle.std.proofs.Common.{map}
use Rattle.answer_check.proofs.RowDates.{AreReadUpTo}
use Rattle.answer_check.proofs.list_reading.row_in.Given as goal

abbrev pub invariant-loop-index : goal.invariant-loop-index
invariant-loop-index l = AreReadUpTo (map (λ x. x.now) l.words) l.initial.dates.items l.dates.items l.index
