use Rattle.release_nets.specs.ReleaseNetsBuilt.{AreBuilt}
use Rattle.teg_timetable.specs.WaysBack.{IsTop}
use Rattle.teg_timetable.proofs.late.tops.Given as goal

abbrev pub invariant-loop-index : goal.invariant-loop-index
invariant-loop-index l = AreBuilt (IsTop l.left) l.index l.tops.items
