use Rattle.state_laws.proofs.LegalInTime.{legal_in_time}
use Rattle.state_laws.proofs.NetGoesOn.{legal_goes_on}
use Rattle.state_laws.proofs.laws.legal_runs_go_on.Goals as goal

pub returns-clause-in_time : goal.returns-clause-in_time
returns-clause-in_time c = legal_in_time

pub returns-clause-goes_on : goal.returns-clause-goes_on
returns-clause-goes_on c = legal_goes_on
