use Rattle.std.proofs.Common.{take}
use Rattle.teg_net.specs.NameOrders.{HasNames}
use Rattle.teg_net.proofs.name_order.NameOrder.new.Given as goal

-- the order has the names of the transitions so far
abbrev pub invariant-loop-index : goal.invariant-loop-index
invariant-loop-index l = HasNames l.net.transitions (take l.index l.net.transitions) l.ids
