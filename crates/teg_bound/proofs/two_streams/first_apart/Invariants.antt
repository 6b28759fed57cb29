use Rattle.std.proofs.Common.{ℕ, ◌≤◌, ◌<◌}
use Rattle.teg_bound.specs.ReturningRows.{IsRowMoved}
use Rattle.teg_bound.proofs.two_streams.first_apart.Given as goal

abbrev pub invariant-loop-behind : goal.invariant-loop-behind
invariant-loop-behind l = (b : ℕ) → 1 ≤ b → b < l.behind → IsRowMoved l.net l.early l.late l.step b
