use Rattle.bound_laws.proofs.Bounded.{still_nets_stay_at_zero_by}
use Rattle.bound_laws.proofs.laws.still_nets_stay_at_zero.Goals as goal

pub returns : goal.returns
returns c = still_nets_stay_at_zero_by
