use Rattle.teg_howard.proofs.InnerPlaces.{PlacesTo}
use Rattle.teg_howard.proofs.inside.list_places.Given as goal

abbrev pub invariant-loop-index : goal.invariant-loop-index
invariant-loop-index l = PlacesTo l.net l.parts l.part l.ids.items l.index
