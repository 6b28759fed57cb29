use Rattle.net_ids.proofs.IdLists.{transitions_below}
use Rattle.net_ids.proofs.ids.transition_ids.Goals as goal

pub returns-clause-below : goal.returns-clause-below
returns-clause-below c = rw (← c.transition_count.ensures) (transitions_below c.transition_count.result)
