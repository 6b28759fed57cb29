use Rattle.std.proofs.Common.{ℕ, ◌<◌, map}
use Rattle.dating_check.specs.TableReading.{AreFiringLines}
use Rattle.dating_check.proofs.table_lines.are_table_lines.Given as goal

abbrev pub invariant-loop-index : goal.invariant-loop-index
invariant-loop-index l = (t : ℕ) → t < l.index → AreFiringLines l.net (map (λ x. x.now) l.lines) l.numbers t
