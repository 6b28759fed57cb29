use Rattle.teg_net.specs.declared.entries.Place.{Place}
use Rattle.teg_bound.proofs.Greatest.{IsMostUpTo}
use Rattle.teg_bound.proofs.readings.greatest_hold.Given as goal

abbrev pub invariant-loop-place : goal.invariant-loop-place
invariant-loop-place l = IsMostUpTo (λ (p : Place). p.hold) l.place-items 0 l.place-index l.greatest
