use Rattle.bound_laws.proofs.Bounded.{factorials_are_common, steps_are_whole}
use Rattle.bound_laws.proofs.laws.common_multiples_exist.Goals as goal

pub returns : goal.returns
returns c = record { common = factorials_are_common; whole = steps_are_whole }
