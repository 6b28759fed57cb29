use Rattle.change_laws.proofs.GoingBack.{hold_back}
use Rattle.change_laws.proofs.laws.holds_go_back.Goals as goal

pub returns : goal.returns
returns c = hold_back
