use Rattle.std.proofs.Common.{ℕ, ◌+◌, ◌≤◌, ◌<◌, ◌≡◌}
use Rattle.teg_bound.specs.MadeRows.{AreMadeOf}
use Rattle.teg_bound.specs.ReturningRows.{RowsDoNot}
use Rattle.teg_bound.proofs.two_streams.return_in.Given as goal

abbrev pub invariant-loop-period : goal.invariant-loop-period
invariant-loop-period l = record {
  late_is : AreMadeOf l.net l.late;
  number : l.late.stream.last.number + 1 ≡ l.early.stream.last.number + l.period;
  refuted : (p : ℕ) → 1 ≤ p → p < l.period → RowsDoNot l.net l.early.stream.last.reach l.early.stream.last.number p;
}
