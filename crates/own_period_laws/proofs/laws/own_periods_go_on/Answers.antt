use Rattle.own_period_laws.proofs.OwnPeriods.{own_periods_go_on}
use Rattle.own_period_laws.proofs.laws.own_periods_go_on.Goals as goal

pub returns : goal.returns
returns c = own_periods_go_on
