use Rattle.teg_critical.proofs.SameRatio.{one_slack}
use Rattle.teg_critical.proofs.laws.slacks_are_one.Goals as goal

pub returns : goal.returns
returns c = one_slack
