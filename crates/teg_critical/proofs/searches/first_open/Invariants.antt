use Rattle.std.proofs.Common.{◌≤◌, ◌-◌, length, take}
use Rattle.teg_critical.specs.LeastLosses.{AreSettled}
use Rattle.teg_critical.proofs.searches.first_open.Given as goal

abbrev pub invariant-open : goal.invariant-open
invariant-open l = (l.next ≤ length l.wanted) × AreSettled l.settled (take l.next l.wanted)

abbrev pub decreases-open : goal.decreases-open
decreases-open l = length l.wanted - l.next
