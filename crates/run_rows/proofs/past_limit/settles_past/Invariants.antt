use Rattle.std.proofs.Common.{◌-◌, ◌≤◌}
use Rattle.teg_net.specs.Limits.{most_rows}
use Rattle.run_rows.specs.Stretches.{AreReached}
use Rattle.run_rows.proofs.past_limit.settles_past.Given as goal

abbrev pub invariant-loop-reached : goal.invariant-loop-reached
invariant-loop-reached l = record {
  reached : AreReached l.ranked.net.now l.ranked.most l.reached;
  room : l.room ≤ most_rows;
}

abbrev pub decreases-loop-reached : goal.decreases-loop-reached
decreases-loop-reached l = 500000000000000000 - l.reached.after
