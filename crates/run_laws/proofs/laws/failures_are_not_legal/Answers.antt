use Rattle.run_laws.proofs.Failing.{not_legal, one_failure}
use Rattle.run_laws.proofs.laws.failures_are_not_legal.Goals as goal

pub returns-clause-not_legal : goal.returns-clause-not_legal
returns-clause-not_legal c = not_legal

pub returns-clause-one : goal.returns-clause-one
returns-clause-one c = one_failure
