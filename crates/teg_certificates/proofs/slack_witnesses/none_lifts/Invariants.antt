use Rattle.std.proofs.Common.{ℕ, ◌<◌}
use Rattle.teg_net.specs.Circuits.{place_at}
use Rattle.teg_certificates.specs.SlackWitnesses.{LiftsNoneWith, gain_at}
use Rattle.teg_certificates.proofs.slack_witnesses.none_lifts.Given as goal

abbrev pub invariant-loop-number : goal.invariant-loop-number
invariant-loop-number l =
    (k : ℕ) → k < l.number → LiftsNoneWith l.ratio l.potentials (gain_at l.ratio l.place l.by (record { index = k })) (place_at l.net (record { index = k }))
