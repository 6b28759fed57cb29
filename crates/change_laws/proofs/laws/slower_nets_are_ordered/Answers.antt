use Rattle.change_laws.proofs.Changing.{slower_ordered}
use Rattle.change_laws.proofs.laws.slower_nets_are_ordered.Goals as goal

pub returns : goal.returns
returns c = slower_ordered
