use Rattle.planning_laws.proofs.VaryingHolds.{tight_are_early, lie_between, varying_between, least_have_holds}
use Rattle.planning_laws.proofs.HeldDatings.{held_exist, held_are_one}
use Rattle.planning_laws.proofs.laws.varying_holds_lie_between.Goals as goal

pub returns : goal.returns
returns c = record { exist = held_exist; one = held_are_one; early = tight_are_early; between = lie_between; holds = varying_between; own = least_have_holds }
