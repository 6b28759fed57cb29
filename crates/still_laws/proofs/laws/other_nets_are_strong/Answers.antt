use Rattle.still_laws.proofs.StillNets.{others_strong}
use Rattle.still_laws.proofs.laws.other_nets_are_strong.Goals as goal

pub returns : goal.returns
returns c = others_strong
