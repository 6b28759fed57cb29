use Rattle.dating_laws.proofs.SlowerNets.{slower_later}
use Rattle.dating_laws.proofs.laws.dates_rise_with_the_net.Goals as goal

pub returns : goal.returns
returns c = slower_later
