use Rattle.teg_check.proofs.Changing.{ranking_kept}
use Rattle.teg_check.proofs.live.holds_keep_rankings.Goals as goal

pub returns : goal.returns
returns c = ranking_kept
