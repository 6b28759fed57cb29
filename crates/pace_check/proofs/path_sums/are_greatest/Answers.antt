use Rattle.std.proofs.Common.{rules}
use Rattle.pace_check.proofs.PathSums.{sums_are_greatest}
use Rattle.pace_check.proofs.path_sums.are_greatest.Goals as goal

pub returns : goal.returns
returns c = λ yes.
    let part = c.args.part.now in
    sums_are_greatest part.net.now part.part_of.now part.number part.ratio part.start c.args.potentials.now c.requires.members c.requires.kept
    (search rules) (search rules)
