use Rattle.std.proofs.Common.{All, take}
use Rattle.teg_net.specs.Circuits.{place_at}
use Rattle.teg_lags.specs.Lags.{HasHeldLonger}
use Rattle.teg_lags.proofs.lags.lead_longer.Given as goal

abbrev pub invariant-loop-first : goal.invariant-loop-first
invariant-loop-first l = All (λ p. HasHeldLonger l.net l.lag l.others (place_at l.net p)) (take l.first-index l.firsts)
