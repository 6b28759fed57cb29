use Rattle.teg_model.proofs.FirstStarts.{start_in, start_is, one_start}
use Rattle.teg_model.proofs.SystemWalks.{least_in_is_walk}
use Rattle.teg_model.proofs.systems.least_in_are_walks.Goals as goal

pub returns : goal.returns
returns c = record {
  starts = λ s t k. (start_in s t k, start_is s t k, λ other h. one_start s t k other (start_in s t k) h (start_is s t k));
  walks = λ net ends ranked initial release x h. least_in_is_walk net initial release ranked.0 ranked.1 ends ranked.2 x h;
}
