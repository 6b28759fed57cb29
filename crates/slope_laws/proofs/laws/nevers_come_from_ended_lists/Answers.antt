use Rattle.slope_laws.proofs.Nevers.{nevers_come_from_ended_lists}
use Rattle.slope_laws.proofs.laws.nevers_come_from_ended_lists.Goals as goal

pub returns : goal.returns
returns c = nevers_come_from_ended_lists
