use Rattle.change_laws.proofs.Changing.{longer_holds}
use Rattle.change_laws.proofs.laws.longer_holds_make_slower_nets.Goals as goal

pub returns : goal.returns
returns c = longer_holds
