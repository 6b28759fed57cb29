use Rattle.forever_laws.proofs.Paced.{paced_late_is_soon}
use Rattle.forever_laws.proofs.laws.paced_late_is_soon.Goals as goal

pub returns : goal.returns
returns c = paced_late_is_soon
