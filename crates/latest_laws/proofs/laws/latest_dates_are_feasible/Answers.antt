use Rattle.latest_laws.proofs.Floats.{latest_are_feasible, latest_are_greatest}
use Rattle.latest_laws.proofs.laws.latest_dates_are_feasible.Goals as goal

pub returns : goal.returns
returns c = record { feasible = latest_are_feasible; greatest = latest_are_greatest }
