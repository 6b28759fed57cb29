use Rattle.forever_laws.proofs.Fitting.{due_series_fit, walk_series_fit}
use Rattle.forever_laws.proofs.laws.series_fit.Goals as goal

pub returns : goal.returns
returns c = record { dues = due_series_fit; walks = walk_series_fit }
