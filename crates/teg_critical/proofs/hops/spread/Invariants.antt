use Rattle.teg_critical.proofs.HopLaws.{IsSpread}
use Rattle.teg_critical.proofs.hops.spread.Given as goal

abbrev pub invariant-loop-index : goal.invariant-loop-index
invariant-loop-index l = IsSpread l.net l.usable l.fn.first l.initial.hops l.index l.reached l.hops
