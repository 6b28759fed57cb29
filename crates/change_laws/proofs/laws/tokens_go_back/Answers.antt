use Rattle.change_laws.proofs.GoingBack.{tokens_back}
use Rattle.change_laws.proofs.laws.tokens_go_back.Goals as goal

pub returns : goal.returns
returns c = tokens_back
