use Rattle.latest_laws.proofs.ShownByWalks.{late_walks_bound, late_walks_refuse}
use Rattle.latest_laws.proofs.laws.late_walks_refuse.Goals as goal

pub returns-clause-bound : goal.returns-clause-bound
returns-clause-bound c = late_walks_bound

pub returns-clause-refuse : goal.returns-clause-refuse
returns-clause-refuse c = late_walks_refuse
