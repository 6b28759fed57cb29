use Rattle.end_laws.proofs.ByEnds.{walks_go_by_ends}
use Rattle.end_laws.proofs.laws.walks_go_by_ends.Goals as goal

pub returns : goal.returns
returns c = walks_go_by_ends
