use Rattle.bound_laws.proofs.Bounded.{dates_go_on}
use Rattle.bound_laws.proofs.laws.dates_go_on_past_the_bound.Goals as goal

pub returns : goal.returns
returns c = dates_go_on
