use Rattle.std.proofs.Common.{refl}
use Rattle.bound_check.proofs.bound.settles.Goals as goal

pub returns : goal.returns
returns c = λ yes. (_, c.in_ok-sure.ensures.shortest c.requires yes, refl, refl)
