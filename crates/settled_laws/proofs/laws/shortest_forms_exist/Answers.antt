use Rattle.settled_laws.proofs.Shortest.{shortest_exists}
use Rattle.settled_laws.proofs.laws.shortest_forms_exist.Goals as goal

pub returns : goal.returns
returns c = shortest_exists
