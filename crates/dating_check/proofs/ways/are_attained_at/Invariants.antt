use Rattle.std.proofs.Common.{ℕ, ◌<◌}
use Rattle.dating_check.specs.ShownTables.{IsAttained}
use Rattle.dating_check.proofs.ways.are_attained_at.Given as goal

abbrev pub invariant-loop-index : goal.invariant-loop-index
invariant-loop-index l = (t : ℕ) → t < l.index → IsAttained l.net l.rows.due.now l.rows.numbers l.rows.width l.rows.dates.now l.rows.ways.now t l.number
