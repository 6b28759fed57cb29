use Rattle.teg_net.specs.declared.entries.Place.{Place}
use Rattle.teg_bound.proofs.Greatest.{IsMostUpTo}
use Rattle.teg_bound.proofs.readings.most_tokens.Given as goal

abbrev pub invariant-loop-place : goal.invariant-loop-place
invariant-loop-place l = IsMostUpTo (λ (p : Place). p.tokens) l.place-items 1 l.place-index l.most
