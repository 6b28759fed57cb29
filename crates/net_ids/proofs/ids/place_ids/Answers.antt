use Rattle.net_ids.proofs.IdLists.{places_below}
use Rattle.net_ids.proofs.ids.place_ids.Goals as goal

pub returns-clause-below : goal.returns-clause-below
returns-clause-below c = rw (← c.place_count.ensures) (places_below c.place_count.result)
