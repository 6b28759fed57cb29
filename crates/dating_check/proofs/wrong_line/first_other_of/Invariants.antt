use Rattle.std.proofs.Common.{ℕ, ◌≤◌, map}
use Rattle.dating_check.specs.TableReading.{TellsDate}
use Rattle.dating_check.proofs.wrong_line.first_other_of.Given as goal

abbrev pub invariant-loop-before : goal.invariant-loop-before
invariant-loop-before l = (k : ℕ) → 1 ≤ k → k ≤ l.before → TellsDate (map (λ x. x.now) l.lines) l.rows.numbers l.rows.width l.rows.dates.now l.index k
