use Rattle.teg_jit.proofs.MeetOrLate.{meet_or_late}
use Rattle.teg_jit.proofs.laws.meet_or_late.Goals as goal

pub returns : goal.returns
returns c = meet_or_late
