use Rattle.jump_laws.proofs.Turns.{turns_read}
use Rattle.jump_laws.proofs.laws.turns_are_read_off.Goals as goal

pub returns : goal.returns
returns c = turns_read
