use Rattle.endless_laws.proofs.WalksToDues.{walks_on, few_show_all}
use Rattle.endless_laws.proofs.laws.walks_move_on.Goals as goal

pub returns : goal.returns
returns c = record { walks = walks_on; few = few_show_all }
