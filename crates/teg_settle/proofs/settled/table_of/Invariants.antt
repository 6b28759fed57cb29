use Rattle.std.proofs.Common.{◌-◌, ◌≤◌}
use Rattle.teg_settle.specs.Copies.{IsTableTo}
use Rattle.teg_settle.proofs.settled.table_of.Given as goal

abbrev pub invariant-loop-shown : goal.invariant-loop-shown
invariant-loop-shown l = record {
  few : l.shown ≤ l.count;
  table : IsTableTo l.rows l.shown l.table.items;
}

abbrev pub decreases-loop-shown : goal.decreases-loop-shown
decreases-loop-shown l = l.count - l.shown
