use Rattle.std.proofs.Common.{rules, ◌≡◌}
use mir.Val.{of_z, to_z}
use mir.Syntax.{w128}
use Rattle.pace_check.proofs.PathSums.{sums_more}
use Rattle.pace_check.proofs.path_sums.raise.Goals as goal

pub returns : goal.returns
returns c =
    let part = c.args.part.now in
    let same : to_z w128 (of_z w128 c.args.sum) ≡ c.args.sum = search rules in
    rw same (sums_more part.net.now part.part_of.now part.number part.ratio part.start c.args.sums.now c.args.at.index c.args.sum c.requires.at c.requires.sum c.requires.sums)
