use Rattle.late_laws.proofs.SlowDues.{slow_late}
use Rattle.late_laws.proofs.laws.slow_dues_are_late.Goals as goal

pub returns : goal.returns
returns c = slow_late
