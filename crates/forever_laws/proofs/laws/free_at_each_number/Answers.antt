use Rattle.forever_laws.proofs.Meeting.{free_at_each}
use Rattle.forever_laws.proofs.laws.free_at_each_number.Goals as goal

pub returns : goal.returns
returns c = free_at_each
