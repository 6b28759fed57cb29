use Rattle.ready_changes.proofs.ReadyDates.{keep_rankings}
use Rattle.ready_changes.proofs.laws.ready_dates_keep_rankings.Goals as goal

pub returns : goal.returns
returns c = keep_rankings
