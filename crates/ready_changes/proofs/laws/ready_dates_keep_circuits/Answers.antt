use Rattle.ready_changes.proofs.ReadyDates.{keep_circuits}
use Rattle.ready_changes.proofs.laws.ready_dates_keep_circuits.Goals as goal

pub returns : goal.returns
returns c = keep_circuits
