use Rattle.teg_net.proofs.Changing.{holds_keep_live_nets}
use Rattle.teg_net.proofs.changes.holds_keep_live_nets.Goals as goal

pub returns : goal.returns
returns c = holds_keep_live_nets
