use Rattle.jump_laws.proofs.InNets.{dates_jump, jumps_end}
use Rattle.jump_laws.proofs.laws.dates_jump.Goals as goal

pub returns : goal.returns
returns c = record { jump = dates_jump; end = jumps_end }
