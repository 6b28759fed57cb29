use Rattle.realization_laws.proofs.Realizing.{are_realized}
use Rattle.realization_laws.proofs.laws.series_are_realized.Goals as goal

pub returns : goal.returns
returns c = are_realized c.ranked_nets_are_live.ensures
