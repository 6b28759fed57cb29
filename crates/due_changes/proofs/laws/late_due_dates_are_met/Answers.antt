use Rattle.due_changes.proofs.LateDues.{late_dues_met}
use Rattle.due_changes.proofs.laws.late_due_dates_are_met.Goals as goal

pub returns : goal.returns
returns c = late_dues_met
