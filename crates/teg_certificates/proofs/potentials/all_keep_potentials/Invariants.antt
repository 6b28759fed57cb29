use Rattle.std.proofs.Common.{ℕ, ◌<◌}
use Rattle.teg_net.specs.Circuits.{place_at}
use Rattle.teg_certificates.specs.Checks.{KeepsPotential}
use Rattle.teg_certificates.proofs.potentials.all_keep_potentials.Given as goal

abbrev pub invariant-loop-place : goal.invariant-loop-place
invariant-loop-place l = (k : ℕ) → k < l.place-index → KeepsPotential l.part.part_of.now l.part.number l.ratio l.potentials (place_at l.part.net.now (record { index = k }))
