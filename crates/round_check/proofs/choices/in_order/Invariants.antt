use Rattle.std.proofs.Common.{ℕ, ◌<◌, get_or}
use Rattle.teg_net.specs.declared.rounds.Choice.{Choice}
use Rattle.round_check.proofs.choices.in_order.Given as goal

-- the choices before the next one stand in order
abbrev pub invariant-loop-next : goal.invariant-loop-next
invariant-loop-next l =
    (j k : ℕ) (d : Choice) → j < k → k < l.next → (get_or l.choices j d).transition.index < (get_or l.choices k d).transition.index
