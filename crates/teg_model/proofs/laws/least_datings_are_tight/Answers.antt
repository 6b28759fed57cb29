use Rattle.teg_model.proofs.LiveRanks.{live_is_ranked}
use Rattle.teg_model.proofs.OfNet.{tight_of_least}
use Rattle.teg_model.proofs.TightLeast.{tight_is_least}
use Rattle.teg_model.proofs.laws.least_datings_are_tight.Goals as goal

pub returns : goal.returns
returns c = record {
  tight = λ net ends live u x h. let ranked = live_is_ranked net ends live in tight_of_least net u x ranked.0 ranked.1 ranked.2 h;
  least = λ net ends live u x f h. let ranked = live_is_ranked net ends live in tight_is_least net u x ranked.0 ranked.1 ends ranked.2 f h;
}
