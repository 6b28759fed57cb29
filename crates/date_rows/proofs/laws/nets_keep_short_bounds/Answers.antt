use Rattle.date_rows.proofs.Earliest.{net_keeps_short_bounds}
use Rattle.date_rows.proofs.laws.nets_keep_short_bounds.Goals as goal

pub returns : goal.returns
returns c = net_keeps_short_bounds
