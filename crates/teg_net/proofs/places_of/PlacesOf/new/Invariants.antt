use Rattle.teg_net.proofs.PlaceListLaws.{ListedBelow}
use Rattle.teg_net.proofs.places_of.PlacesOf.new.Given as goal

abbrev pub invariant-loop-index : goal.invariant-loop-index
invariant-loop-index l = ListedBelow l.net l.end l.lists.items l.index
