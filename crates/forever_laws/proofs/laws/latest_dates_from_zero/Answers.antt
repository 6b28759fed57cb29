use Rattle.forever_laws.proofs.Inputs.{latest_from_zero}
use Rattle.forever_laws.proofs.laws.latest_dates_from_zero.Goals as goal

pub returns : goal.returns
returns c = latest_from_zero
