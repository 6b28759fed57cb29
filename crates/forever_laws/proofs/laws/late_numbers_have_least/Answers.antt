use Rattle.forever_laws.proofs.Soon.{have_least}
use Rattle.forever_laws.proofs.laws.late_numbers_have_least.Goals as goal

pub returns : goal.returns
returns c = have_least
