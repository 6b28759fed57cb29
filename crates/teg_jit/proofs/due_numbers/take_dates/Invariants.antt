use Rattle.date_rows.specs.Streams.{AreFirstRowsOf}
use Rattle.teg_jit.proofs.DueNumbers.{TakenTo}
use Rattle.teg_jit.proofs.due_numbers.take_dates.Given as goal

abbrev pub invariant-loop-at : goal.invariant-loop-at
invariant-loop-at l = record {
  stands : AreFirstRowsOf l.asked.net.now l.first;
  taken : TakenTo l.asked.net.now l.asked.rows.now l.asked.order.now l.first.window.number l.cells l.dates l.at-index;
}
