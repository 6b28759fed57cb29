use Rattle.std.proofs.Common.{ℕ, ◌<◌}
use Rattle.teg_net.specs.Parts.{IsMember}
use Rattle.teg_certificates.specs.Checks.{HasPotentialTold}
use Rattle.teg_certificates.proofs.potentials.all_members.Given as goal

abbrev pub invariant-loop-transition : goal.invariant-loop-transition
invariant-loop-transition l = (t : ℕ) → t < l.transition → IsMember l.part_of l.part t → HasPotentialTold l.potentials t
