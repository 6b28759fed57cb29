use Rattle.latest_laws.proofs.ShownByWalks.{tight_walks_bound}
use Rattle.latest_laws.proofs.laws.tight_walks_bound.Goals as goal

pub returns : goal.returns
returns c = tight_walks_bound
