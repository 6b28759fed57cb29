use Rattle.std.proofs.Common.{◌≡◌, ◌≤◌, ◌*◌, take}
use Rattle.teg_net.specs.Limits.{greatest_hold}
use Rattle.teg_net.specs.Walks.{walk_time}
use Rattle.teg_net.proofs.walks.walk_time.Given as goal

abbrev pub invariant-loop-step : goal.invariant-loop-step
invariant-loop-step l = record {
  so_far : l.time ≡ walk_time l.net (take l.step-index l.walk.steps.items);
  most : l.time ≤ greatest_hold * l.step-index;
}
