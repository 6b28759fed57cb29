use Rattle.forever_laws.proofs.Residuals.{residuals_are_latest, free_or_numbers}
use Rattle.forever_laws.proofs.laws.residuals_are_latest_dates.Goals as goal

pub returns : goal.returns
returns c = record { latest = residuals_are_latest; numbers = free_or_numbers }
