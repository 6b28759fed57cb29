use Rattle.std.proofs.Common.{take}
use Rattle.teg_net.specs.NetFaults.{ArePlacesApart}
use Rattle.teg_net.proofs.rules.same_place.Given as goal

abbrev pub invariant-loop-index : goal.invariant-loop-index
invariant-loop-index l = ArePlacesApart (take l.index l.places)
