use Rattle.std.proofs.Common.{◌-◌, ◌<◌, ◌≤◌}
use Rattle.run_rows.specs.Stretches.{AreRowsFrom}
use Rattle.run_rows.proofs.stretches.next_stretch.Given as goal

abbrev pub invariant-stretch : goal.invariant-stretch
invariant-stretch l = record {
  rows : AreRowsFrom l.ranked.net.now l.ranked.most l.reached.after l.reached.runs.runs l.rows;
  within : l.rows.count ≤ l.last;
  stage_in : l.stage ≤ l.last;
  stage_more : l.rows.count < l.last → l.rows.count < l.stage;
}

abbrev pub decreases-stretch : goal.decreases-stretch
decreases-stretch l = l.last - l.rows.count
