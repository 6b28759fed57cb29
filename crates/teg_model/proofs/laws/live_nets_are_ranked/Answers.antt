use Rattle.teg_model.proofs.LiveRanks.{live_is_ranked}
use Rattle.teg_model.proofs.laws.live_nets_are_ranked.Goals as goal

pub returns : goal.returns
returns c = live_is_ranked
