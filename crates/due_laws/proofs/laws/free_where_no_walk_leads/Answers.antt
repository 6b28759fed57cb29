use Rattle.due_laws.proofs.LatestDates.{free_without_walks}
use Rattle.due_laws.proofs.laws.free_where_no_walk_leads.Goals as goal

pub returns : goal.returns
returns c = free_without_walks
