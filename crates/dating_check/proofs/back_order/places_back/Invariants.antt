use Rattle.dating_check.proofs.BackOrder.{PlacedUpTo}
use Rattle.dating_check.proofs.back_order.places_back.Given as goal

abbrev pub invariant-loop-index : goal.invariant-loop-index
invariant-loop-index l = PlacedUpTo l.net l.ranks l.order.items l.index
