use Rattle.forever_laws.proofs.Inputs.{latest_at_inputs}
use Rattle.forever_laws.proofs.laws.latest_at_inputs_are_latest.Goals as goal

pub returns : goal.returns
returns c = latest_at_inputs
