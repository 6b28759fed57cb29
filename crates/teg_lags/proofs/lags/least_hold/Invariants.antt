use Rattle.std.proofs.Common.{◌≤◌, ◌≡◌, ◌⊎◌, All, take}
use Rattle.teg_net.specs.Circuits.{place_at}
use Rattle.teg_net.specs.Limits.{greatest_hold}
use Rattle.teg_lags.specs.Lags.{HasHold}
use Rattle.teg_lags.proofs.lags.least_hold.Given as goal

abbrev pub invariant-loop-place : goal.invariant-loop-place
invariant-loop-place l =
    (l.least ≤ greatest_hold)
    × All (λ p. l.least ≤ (place_at l.net p).hold) (take l.place-index l.places)
    × ((l.least ≡ greatest_hold) ⊎ HasHold l.net l.places l.least)
