use Rattle.std.proofs.Common.{ℕ, ◌<◌}
use Rattle.teg_parts.specs.Components.{IsMarked}
use Rattle.round_check.proofs.runs.is_any.Given as goal

abbrev pub invariant-loop-is_marked : goal.invariant-loop-is_marked
invariant-loop-is_marked l = (t : ℕ) → t < l.is_marked-index → IsMarked l.marks t → ⊥
