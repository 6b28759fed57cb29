use Rattle.series_laws.proofs.Closed.{closed}
use Rattle.series_laws.proofs.laws.series_are_closed.Goals as goal

pub returns : goal.returns
returns c = closed
