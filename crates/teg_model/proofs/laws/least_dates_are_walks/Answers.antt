use Rattle.teg_model.proofs.GreatestWalks.{least_is_walk}
use Rattle.teg_model.proofs.LiveRanks.{live_is_ranked}
use Rattle.teg_model.proofs.laws.least_dates_are_walks.Goals as goal

pub returns : goal.returns
returns c = λ net ends live u x h. let ranked = live_is_ranked net ends live in least_is_walk net u x ranked.0 ranked.1 ends ranked.2 h
