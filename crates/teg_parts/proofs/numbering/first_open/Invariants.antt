use Rattle.std.proofs.Common.{ℕ, ◌<◌}
use Rattle.teg_parts.specs.PartNumbers.{IsOpenFor}
use Rattle.teg_parts.proofs.numbering.first_open.Given as goal

abbrev pub invariant-loop-transition : goal.invariant-loop-transition
invariant-loop-transition l = (t : ℕ) → t < l.transition → IsOpenFor l.components l.numbers l.blocked t → ⊥
