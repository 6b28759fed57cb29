use Rattle.teg_check.proofs.Changing.{ranking_with_more}
use Rattle.teg_check.proofs.live.more_tokens_keep_rankings.Goals as goal

pub returns : goal.returns
returns c = ranking_with_more
