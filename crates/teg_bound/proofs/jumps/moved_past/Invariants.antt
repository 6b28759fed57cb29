use Rattle.std.proofs.Common.{◌-◌, ◌≤◌}
use Rattle.teg_bound.proofs.jumps.moved_past.Given as goal

abbrev pub invariant-climb : goal.invariant-climb
invariant-climb l = l.from ≤ l.found.last

abbrev pub decreases-climb : goal.decreases-climb
decreases-climb l = l.found.last - l.from
