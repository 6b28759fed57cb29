use Rattle.std.proofs.Common.{◌-◌, ◌≡◌, ◌≤◌}
use Rattle.teg_net.specs.Limits.{most_rows}
use Rattle.run_rows.specs.Stretches.{AreReached}
use Rattle.run_rows.proofs.by_jumps.go_on.Given as goal

abbrev pub invariant-loop-reached : goal.invariant-loop-reached
invariant-loop-reached l = record {
  reached : AreReached l.ranked.net.now l.ranked.most l.reached;
  all : l.reached.all ≡ l.fn.from.all;
  few : l.reached.after ≤ l.number;
  some : 1 ≤ l.room;
  room : l.room ≤ most_rows;
}

abbrev pub decreases-loop-reached : goal.decreases-loop-reached
decreases-loop-reached l = l.number - l.reached.after
