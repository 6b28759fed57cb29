use Rattle.std.proofs.Common.{ℕ, ◌<◌, None, map}
use Rattle.dating_check.specs.TableReading.{FirstOtherOf}
use Rattle.dating_check.proofs.wrong_line.first_other.Given as goal

abbrev pub invariant-loop-index : goal.invariant-loop-index
invariant-loop-index l = (s : ℕ) → s < l.index → FirstOtherOf (map (λ x. x.now) l.lines) l.rows.numbers l.rows.width l.rows.dates.now s None
