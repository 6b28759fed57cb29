use Rattle.workable_laws.proofs.Workable.{leave_time, above_ratios}
use Rattle.workable_laws.proofs.laws.workable_periods_leave_time.Goals as goal

pub returns : goal.returns
returns c = record { circuits = leave_time; ratios = above_ratios }
