use Rattle.std.proofs.Common.{◌≡◌}
use Rattle.teg_settle.specs.ComparedRows.{AreRowsOf}
use Rattle.teg_settle.proofs.search.grow.Given as goal

abbrev pub invariant-loop-number : goal.invariant-loop-number
invariant-loop-number l = record {
  count : l.rows.count ≡ l._number;
  rows : AreRowsOf l.asked.net.now l.asked.releases.now l.rows;
}
