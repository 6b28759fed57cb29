use Rattle.teg_parts.proofs.NumberingSteps.{BlockedTo}
use Rattle.teg_parts.proofs.numbering.blocked_components.Given as goal

abbrev pub invariant-loop-place : goal.invariant-loop-place
invariant-loop-place l = BlockedTo l.net l.components l.numbers l.blocked.items l.place-index
