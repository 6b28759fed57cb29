use Rattle.std.proofs.Common.{◌+◌, ◌≤◌}
use Rattle.teg_settle.specs.ComparedRows.{IsMovedPast}
use Rattle.teg_settle.proofs.witness.PeriodTest.moved_past.Given as goal

abbrev pub invariant-loop-number : goal.invariant-loop-number
invariant-loop-number l = record {
  within : l.number + l.self.period ≤ l.self.rows.count;
  moved : IsMovedPast l.self.rows l.self.period l.number;
}

abbrev pub decreases-loop-number : goal.decreases-loop-number
decreases-loop-number l = l.number
