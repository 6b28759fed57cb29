use Rattle.forever_laws.proofs.Series.{transfers_are_series, dues_are_series}
use Rattle.forever_laws.proofs.laws.forms_are_series.Goals as goal

pub returns : goal.returns
returns c = record { walks = transfers_are_series; dues = dues_are_series }
