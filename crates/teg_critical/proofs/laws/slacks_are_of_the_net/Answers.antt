use Rattle.teg_critical.proofs.SameRatio.{of_the_net}
use Rattle.teg_critical.proofs.laws.slacks_are_of_the_net.Goals as goal

pub returns : goal.returns
returns c = of_the_net
