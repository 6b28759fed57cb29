use Rattle.teg_state.proofs.LeftPlaces.{AreLeft}
use Rattle.teg_state.proofs.places.places_left.Given as goal

abbrev pub invariant-loop-index : goal.invariant-loop-index
invariant-loop-index l = AreLeft l.net l.history.run l.fn.now l.index l.places.items
