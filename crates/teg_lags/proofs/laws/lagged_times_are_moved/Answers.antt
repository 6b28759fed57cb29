use Rattle.teg_lags.proofs.Lagged.{lagged_times}
use Rattle.teg_lags.proofs.laws.lagged_times_are_moved.Goals as goal

pub returns : goal.returns
returns c = lagged_times
