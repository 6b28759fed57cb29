use Rattle.dating_laws.proofs.OrderOfDatings.{feasible_meet, feasible_join}
use Rattle.dating_laws.proofs.laws.feasible_datings_meet.Goals as goal

pub returns : goal.returns
returns c = record { meet = feasible_meet; join = feasible_join }
