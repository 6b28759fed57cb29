use Rattle.jump_laws.proofs.InSystems.{dates_jump_in, jumps_end_in, for_ever_in}
use Rattle.jump_laws.proofs.Overtaken.{come_after_in}
use Rattle.jump_laws.proofs.laws.dates_jump_in.Goals as goal

pub returns : goal.returns
returns c = record { jump = dates_jump_in; end = jumps_end_in; ever = for_ever_in; forms = come_after_in }
