use Rattle.teg_certificates.proofs.SlackShown.{critical_shown}
use Rattle.teg_certificates.proofs.laws.critical_circuits_tell.Goals as goal

pub returns : goal.returns
returns c = critical_shown
