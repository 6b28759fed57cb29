use Rattle.forever_laws.proofs.GoingOn.{rows_on}
use Rattle.forever_laws.proofs.laws.rows_go_on.Goals as goal

pub returns : goal.returns
returns c = rows_on
