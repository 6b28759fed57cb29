use Rattle.std.proofs.Common.{count_by, is_none}
use Rattle.teg_check.specs.Exits.{AreExitsLeft}
use Rattle.teg_check.proofs.Trail.{Trail}
use Rattle.teg_check.proofs.exits.circuit_from.Given as goal

abbrev pub invariant-walk : goal.invariant-walk
invariant-walk l = Trail l.net l.ranked l.start l.left.items l.trail.items l.at × AreExitsLeft l.net l.ranked l.exits.leaving l.exits.passed.items

abbrev pub decreases-walk : goal.decreases-walk
decreases-walk l = count_by is_none l.left.items
