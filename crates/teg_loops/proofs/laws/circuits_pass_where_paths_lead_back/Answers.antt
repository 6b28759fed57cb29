use Rattle.teg_loops.proofs.Through.{pass_back}
use Rattle.teg_loops.proofs.laws.circuits_pass_where_paths_lead_back.Goals as goal

pub returns : goal.returns
returns c = pass_back
