use Rattle.std.proofs.Common.{◌-◌, length}
use Rattle.teg_net.specs.declared.places_of.PlaceEnd.TheVariants.{From}
use Rattle.teg_net.specs.PlaceLists.{ListsPlacesAt}
use Rattle.teg_check.specs.Exits.{NoneIsExit}
use Rattle.teg_check.proofs.exits.Exits.last_exit.Given as goal

abbrev pub invariant-back : goal.invariant-back
invariant-back l = ListsPlacesAt l.net From l.transition l.places × NoneIsExit l.net l.ranked l.transition l.places l.passed

abbrev pub decreases-back : goal.decreases-back
decreases-back l = length l.places - l.passed
