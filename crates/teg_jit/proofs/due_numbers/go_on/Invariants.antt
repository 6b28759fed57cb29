use Rattle.std.proofs.Common.{◌≡◌, length}
use Rattle.date_rows.specs.Streams.{AreFirstRowsOf}
use Rattle.teg_jit.specs.DueNumbers.{HaveRow}
use Rattle.teg_jit.proofs.due_numbers.go_on.Given as goal

abbrev pub invariant-loop-done : goal.invariant-loop-done
invariant-loop-done l = record {
  stands : AreFirstRowsOf l.net l.first;
  number : l.first.window.number ≡ l._done;
  full : length l.cells ≡ length l.net.transitions;
  row : HaveRow l.net l._done l.cells;
}
