use Rattle.std.proofs.Common.{ℕ, ◌<◌, get_or}
use Rattle.teg_net.specs.declared.answers.Potential.{Potential}
use Rattle.teg_certificates.proofs.potentials.in_order.Given as goal

-- the potentials before the next one stand in order
abbrev pub invariant-loop-next : goal.invariant-loop-next
invariant-loop-next l =
    (j k : ℕ) (d : Potential) → j < k → k < l.next → (get_or l.potentials j d).transition.index < (get_or l.potentials k d).transition.index
