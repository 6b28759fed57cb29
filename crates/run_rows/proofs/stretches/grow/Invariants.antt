use Rattle.std.proofs.Common.{◌≡◌}
use Rattle.run_rows.specs.Stretches.{AreRowsFrom}
use Rattle.run_rows.proofs.stretches.grow.Given as goal

abbrev pub invariant-loop-number : goal.invariant-loop-number
invariant-loop-number l = record {
  rows : AreRowsFrom l.ranked.net.now l.ranked.most l.past.after l.past.runs.now.runs l.rows;
  count : l.rows.count ≡ l._number;
}
