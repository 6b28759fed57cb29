use Rattle.settled_certificates.proofs.SettledWindows.{windows_go_on}
use Rattle.settled_certificates.proofs.laws.windows_go_on.Goals as goal

pub returns : goal.returns
returns c = windows_go_on
