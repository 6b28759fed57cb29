use Rattle.teg_loops.proofs.Straight.{looped}
use Rattle.teg_loops.proofs.laws.long_paths_have_loops.Goals as goal

pub returns : goal.returns
returns c = looped
