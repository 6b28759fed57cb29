use Rattle.std.proofs.Common.{ℕ, ◌<◌}
use Rattle.teg_bound.specs.JumpedRows.{IsNumberMoved}
use Rattle.teg_bound.proofs.jumps.first_apart.Given as goal

abbrev pub invariant-loop-number : goal.invariant-loop-number
invariant-loop-number l = (k : ℕ) → l.from < k → k < l.number → IsNumberMoved l.net l.rows.runs l.period l.step k
