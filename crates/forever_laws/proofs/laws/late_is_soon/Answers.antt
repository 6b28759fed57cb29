use Rattle.forever_laws.proofs.Soon.{late_is_soon}
use Rattle.forever_laws.proofs.laws.late_is_soon.Goals as goal

pub returns : goal.returns
returns c = late_is_soon
