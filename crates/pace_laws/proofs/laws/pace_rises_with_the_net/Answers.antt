use Rattle.pace_laws.proofs.Slower.{slower_nets, slower_parts, live_by_slower}
use Rattle.pace_laws.proofs.laws.pace_rises_with_the_net.Goals as goal

pub returns : goal.returns
returns c = record { nets = slower_nets; parts = slower_parts; live = live_by_slower }
