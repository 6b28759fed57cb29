use Rattle.dioid_spectra.specs.MatrixNets.{ArePlacesOf}
use Rattle.dioid_spectra.proofs.nets.places_of.Given as goal

abbrev pub invariant-loop-number : goal.invariant-loop-number
invariant-loop-number l = ArePlacesOf l.a l.fn.low l.number l.places.items
