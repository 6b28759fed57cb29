use Rattle.teg_parts.proofs.NumberingSteps.{MarkedTo}
use Rattle.teg_parts.proofs.numbering.inner_marks.Given as goal

abbrev pub invariant-loop-place : goal.invariant-loop-place
invariant-loop-place l = MarkedTo l.net l.part_of l.count l.inner.items l.place-index
