use Rattle.date_rows.proofs.Earliest.{net_keeps_bounds}
use Rattle.date_rows.proofs.laws.nets_keep_bounds.Goals as goal

pub returns : goal.returns
returns c = net_keeps_bounds
