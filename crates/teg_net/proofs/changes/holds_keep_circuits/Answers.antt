use Rattle.teg_net.proofs.Changing.{holds_keep_circuits}
use Rattle.teg_net.proofs.changes.holds_keep_circuits.Goals as goal

pub returns : goal.returns
returns c = holds_keep_circuits
