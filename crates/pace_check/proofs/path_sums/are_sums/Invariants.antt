use Rattle.std.proofs.Common.{ℕ, ◌<◌, get_or}
use Rattle.teg_net.specs.declared.answers.Potential.{Potential}
use Rattle.pace_check.specs.PathSums.{IsPathSum}
use Rattle.pace_check.proofs.path_sums.are_sums.Given as goal

abbrev pub invariant-loop-told : goal.invariant-loop-told
invariant-loop-told l = (k : ℕ) (d : Potential) → k < l.told-index
    → IsPathSum l.part.net.now l.part.part_of.now l.part.number l.part.ratio l.part.start (get_or l.potentials k d).transition.index (get_or l.potentials k d).value
