use Rattle.own_period_laws.proofs.OwnForms.{own_periods_tell_forms}
use Rattle.own_period_laws.proofs.laws.own_periods_tell_forms.Goals as goal

pub returns : goal.returns
returns c = own_periods_tell_forms
