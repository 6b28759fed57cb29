use Rattle.std.proofs.Common.{All, take}
use Rattle.teg_net.specs.Circuits.{place_at}
use Rattle.teg_lags.specs.Lags.{IsHeldLonger}
use Rattle.teg_lags.proofs.lags.has_held_longer.Given as goal

abbrev pub invariant-loop-other : goal.invariant-loop-other
invariant-loop-other l = All (λ q. IsHeldLonger l.lag l.place (place_at l.net q) → ⊥) (take l.other-index l.others)
