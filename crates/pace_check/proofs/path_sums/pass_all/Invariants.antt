use Rattle.pace_check.specs.PathSums.{ArePathSums}
use Rattle.pace_check.proofs.path_sums.pass_all.Given as goal

abbrev pub invariant-loop-index : goal.invariant-loop-index
invariant-loop-index l = ArePathSums l.part.net.now l.part.part_of.now l.part.number l.part.ratio l.part.start l.sums
