use Rattle.std.proofs.Common.{◌+◌, ◌-◌, ◌≤◌}
use Rattle.teg_settle.specs.ComparedRows.{AreRowsOf, most_window}
use Rattle.teg_settle.proofs.Reaching.{enough_rows}
use Rattle.teg_settle.proofs.endless.found.Given as goal

abbrev pub invariant-search : goal.invariant-search
invariant-search l = record {
  rows : AreRowsOf l.net l.releases l.rows;
  more : l.most + 8 ≤ l.stage;
  fewer : l.rows.count ≤ l.stage;
  few : l.stage ≤ most_window;
}

abbrev pub decreases-search : goal.decreases-search
decreases-search l = enough_rows l.net l.most - l.stage
