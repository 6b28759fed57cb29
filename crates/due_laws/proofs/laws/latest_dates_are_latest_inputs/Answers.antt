use Rattle.due_laws.proofs.LatestInputs.{latest_dates_are_inputs}
use Rattle.due_laws.proofs.laws.latest_dates_are_latest_inputs.Goals as goal

pub returns : goal.returns
returns c = latest_dates_are_inputs
