use Rattle.jump_laws.proofs.Turns.{turns_on}
use Rattle.jump_laws.proofs.laws.turns_are_told.Goals as goal

pub returns : goal.returns
returns c = turns_on
