use Rattle.state_laws.proofs.NetGoesOn.{is_continued_by, is_continued_under, net_goes_on, net_goes_on_under, stays_live}
use Rattle.state_laws.proofs.laws.nets_go_on.Goals as goal

pub returns-clause-goes_on : goal.returns-clause-goes_on
returns-clause-goes_on c = net_goes_on

pub returns-clause-live : goal.returns-clause-live
returns-clause-live c = stays_live

pub returns-clause-continued : goal.returns-clause-continued
returns-clause-continued c = is_continued_by

pub returns-clause-under : goal.returns-clause-under
returns-clause-under c = net_goes_on_under

pub returns-clause-continued_under : goal.returns-clause-continued_under
returns-clause-continued_under c = is_continued_under
