use Rattle.std.proofs.Common.{ℕ, ◌<◌, [], get_or, map}
use Rattle.round_check.specs.OtherRounds.{BeginsSo}
use Rattle.round_check.proofs.refuted.first_so.Given as goal

abbrev pub invariant-loop-index : goal.invariant-loop-index
invariant-loop-index l = (j : ℕ) → j < l.index → BeginsSo l.head (get_or (map (λ x. x.now) l.lines) j []) → ⊥
