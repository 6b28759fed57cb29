use Rattle.std.proofs.Common.{ℕ, ◌<◌}
use Rattle.teg_net.specs.Circuits.{place_at}
use Rattle.teg_certificates.specs.Sizes.{LiftsNone, extra_at}
use Rattle.teg_certificates.proofs.sizes.none_lifts.Given as goal

abbrev pub invariant-loop-number : goal.invariant-loop-number
invariant-loop-number l =
    (k : ℕ) → k < l.number → LiftsNone l.target l.potentials (extra_at l.place l.extra (record { index = k })) (place_at l.net (record { index = k }))
