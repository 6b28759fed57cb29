use Rattle.settled_laws.proofs.Shortest.{shortest_is_one}
use Rattle.settled_laws.proofs.laws.shortest_forms_are_one.Goals as goal

pub returns : goal.returns
returns c = shortest_is_one
