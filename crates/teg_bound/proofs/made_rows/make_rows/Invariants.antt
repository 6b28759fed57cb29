use Rattle.std.proofs.Common.{◌≤◌, ◌-◌}
use Rattle.teg_bound.specs.MadeRows.{AreMadeOf}
use Rattle.teg_bound.proofs.made_rows.make_rows.Given as goal

abbrev pub invariant-loop-rows : goal.invariant-loop-rows
invariant-loop-rows l = record {
  made : AreMadeOf l.net l.rows;
  within : l.rows.stream.last.number ≤ l.count;
}

abbrev pub decreases-loop-rows : goal.decreases-loop-rows
decreases-loop-rows l = l.count - l.rows.stream.last.number
