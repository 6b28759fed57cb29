use Rattle.std.proofs.Common.{ℕ, ◌<◌, ◌≤◌}
use Rattle.dating_check.specs.ShownTables.{IsAttained}
use Rattle.dating_check.proofs.ways.are_attained.Given as goal

abbrev pub invariant-loop-before : goal.invariant-loop-before
invariant-loop-before l = (t k : ℕ) → t < l.rows.width → 1 ≤ k → k ≤ l.before → IsAttained l.net l.rows.due.now l.rows.numbers l.rows.width l.rows.dates.now l.rows.ways.now t k
