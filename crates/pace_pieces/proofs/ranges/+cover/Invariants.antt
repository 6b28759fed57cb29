use Rattle.std.proofs.Common.{◌-◌}
use Rattle.pace_pieces.proofs.ranges.+cover.Given as goal

abbrev pub decreases-cover : goal.decreases-cover
decreases-cover l = l.right.hold - l.left.hold
