use Rattle.pace_check.specs.PathSums.{ArePathSums}
use Rattle.pace_check.proofs.path_sums.path_sums.Given as goal

abbrev pub invariant-loop : goal.invariant-loop
invariant-loop l = ArePathSums l.part.net.now l.part.part_of.now l.part.number l.part.ratio l.part.start l.sums.items
