use Rattle.teg_check.proofs.Liveness.{ranking_is_live}
use Rattle.teg_check.proofs.live.ranked_nets_are_live.Goals as goal

pub returns : goal.returns
returns c = ranking_is_live
