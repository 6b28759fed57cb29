use Rattle.still_laws.proofs.StillNets.{still_by_ratio, settle_at_once}
use Rattle.still_laws.proofs.laws.still_nets_settle_at_once.Goals as goal

pub returns : goal.returns
returns c = record { ratio = still_by_ratio; settled = settle_at_once }
