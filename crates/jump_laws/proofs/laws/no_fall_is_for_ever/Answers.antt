use Rattle.jump_laws.proofs.InNets.{for_ever}
use Rattle.jump_laws.proofs.Settling.{settles}
use Rattle.jump_laws.proofs.laws.no_fall_is_for_ever.Goals as goal

pub returns : goal.returns
returns c = record { ever = for_ever; settled = settles }
