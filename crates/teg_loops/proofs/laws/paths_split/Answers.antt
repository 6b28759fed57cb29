use Rattle.teg_loops.proofs.Splitting.{split}
use Rattle.teg_loops.proofs.laws.paths_split.Goals as goal

pub returns : goal.returns
returns c = split
