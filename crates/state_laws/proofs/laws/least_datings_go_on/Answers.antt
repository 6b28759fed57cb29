use Rattle.state_laws.proofs.LeastGoesOn.{goes_on, is_continued, own_after, may_be_released}
use Rattle.state_laws.proofs.laws.least_datings_go_on.Goals as goal

pub returns-clause-goes_on : goal.returns-clause-goes_on
returns-clause-goes_on c = goes_on

pub returns-clause-continued : goal.returns-clause-continued
returns-clause-continued c = is_continued

pub returns-clause-own : goal.returns-clause-own
returns-clause-own c = own_after

pub returns-clause-released : goal.returns-clause-released
returns-clause-released c = may_be_released
