use Rattle.forever_laws.proofs.Turns.{turns_tell, steps_from_zero}
use Rattle.forever_laws.proofs.laws.turns_tell_late.Goals as goal

pub returns : goal.returns
returns c = record { turns = turns_tell; steps = steps_from_zero }
