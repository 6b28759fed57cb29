use Rattle.teg_forever.specs.TogetherRows.{AreInTimeAt}
use Rattle.teg_forever.proofs.together.late_among.Given as goal

abbrev pub invariant-loop-place : goal.invariant-loop-place
invariant-loop-place l = AreInTimeAt l.due.net l.due.rows l.place l.fn.number
