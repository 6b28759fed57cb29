use Rattle.teg_critical.proofs.ShownSlacks.{witnesses_tell}
use Rattle.teg_critical.proofs.laws.witnesses_tell_slacks.Goals as goal

pub returns : goal.returns
returns c = witnesses_tell
