use Rattle.teg_model.proofs.LeastOver.{tight_in}
use Rattle.teg_model.proofs.TightLeast.{tight_is_least_in}
use Rattle.teg_model.proofs.systems.least_in_are_tight.Goals as goal

pub returns : goal.returns
returns c = record {
  tight = λ s ranked x h. record { tight = tight_in s ranked.0 ranked.1 x ranked.2 h };
  least = λ s ranked x f h. tight_is_least_in s x ranked.0 ranked.1 ranked.2 f h;
}
