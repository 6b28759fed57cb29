use Rattle.forever_laws.proofs.Paced.{no_rows_are_met}
use Rattle.forever_laws.proofs.laws.no_rows_are_met.Goals as goal

pub returns : goal.returns
returns c = no_rows_are_met
