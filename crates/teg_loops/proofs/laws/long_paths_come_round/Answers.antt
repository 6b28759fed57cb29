use Rattle.teg_loops.proofs.Again.{round_in}
use Rattle.teg_loops.proofs.laws.long_paths_come_round.Goals as goal

pub returns : goal.returns
returns c = round_in
