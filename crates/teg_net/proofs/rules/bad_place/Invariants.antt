use Rattle.std.proofs.Common.{take}
use Rattle.std.specs.Prelude.{All}
use Rattle.teg_net.specs.Nets.{IsPlaceOf, transitions_alone}
use Rattle.teg_net.proofs.rules.bad_place.Given as goal

abbrev pub invariant-loop-index : goal.invariant-loop-index
invariant-loop-index l = All (IsPlaceOf (transitions_alone l.transitions)) (take l.index l.places)
