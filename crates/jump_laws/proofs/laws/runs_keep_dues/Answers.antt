use Rattle.jump_laws.proofs.Runs.{gathered, keep_dues}
use Rattle.jump_laws.proofs.laws.runs_keep_dues.Goals as goal

pub returns : goal.returns
returns c = record { gathered = gathered; keep = keep_dues }
