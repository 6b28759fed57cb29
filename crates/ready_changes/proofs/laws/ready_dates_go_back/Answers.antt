use Rattle.ready_changes.proofs.ReadyDates.{go_back}
use Rattle.ready_changes.proofs.laws.ready_dates_go_back.Goals as goal

pub returns : goal.returns
returns c = go_back
