use Rattle.teg_net.specs.Circuits.{from_of}
use Rattle.teg_critical.proofs.HopLaws.{IsTraced, count_of}
use Rattle.teg_critical.proofs.hops.circuit_back.Given as goal

abbrev pub invariant-back : goal.invariant-back
invariant-back l = IsTraced l.net l._usable l.hops (from_of l.net l.place) l.at l.places.items

abbrev pub decreases-back : goal.decreases-back
decreases-back l = count_of l.hops l.at
