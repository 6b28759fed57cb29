use Rattle.teg_model.proofs.LeastOver.{least_over, least_over_is_least, only_least_in}
use Rattle.teg_model.proofs.systems.systems_have_least.Goals as goal

pub returns : goal.returns
returns c = record {
  exists = λ s ranked. (least_over s ranked.0 ranked.1, least_over_is_least s ranked.0 ranked.1 ranked.2);
  one = only_least_in;
}
