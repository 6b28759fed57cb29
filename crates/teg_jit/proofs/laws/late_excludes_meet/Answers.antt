use Rattle.teg_jit.proofs.Excluded.{late_excludes}
use Rattle.teg_jit.proofs.laws.late_excludes_meet.Goals as goal

pub returns : goal.returns
returns c = late_excludes
