use Rattle.teg_critical.proofs.GapLaws.{gaps_tell}
use Rattle.teg_critical.proofs.laws.gaps_tell_slacks.Goals as goal

pub returns : goal.returns
returns c = gaps_tell
