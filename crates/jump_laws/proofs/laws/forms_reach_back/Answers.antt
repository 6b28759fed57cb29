use Rattle.jump_laws.proofs.Runs.{reach_back}
use Rattle.jump_laws.proofs.laws.forms_reach_back.Goals as goal

pub returns : goal.returns
returns c = reach_back
