use Rattle.teg_loops.proofs.Splitting.{shorten}
use Rattle.teg_loops.proofs.laws.paths_can_be_shortened.Goals as goal

pub returns : goal.returns
returns c = shorten
