-- The ends of places of a net, as the loops of paths ask for them.
use Rattle.std.proofs.Common.{length}
use Rattle.teg_net.specs.Nets.{NetLists, HasEndsInRange}
use Rattle.teg_net.specs.Circuits.{no_place}
use Rattle.teg_loops.specs.Loops.{EndsBelow}

-- both ends of each place are below the number of transitions
pub ends_below : (net : NetLists) → HasEndsInRange net → EndsBelow net (length net.transitions)
ends_below net ends = record { from_in = λ id l. (ends id.index no_place l).0; to_in = λ id l. (ends id.index no_place l).1 }
