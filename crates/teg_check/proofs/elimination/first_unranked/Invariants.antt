use Rattle.std.proofs.Common.{ℕ, ◌<◌}
use Rattle.teg_check.specs.Exits.{IsUnranked}
use Rattle.teg_check.proofs.elimination.first_unranked.Given as goal

abbrev pub invariant-loop-t : goal.invariant-loop-t
invariant-loop-t l = (k : ℕ) → k < l.t → IsUnranked l.ranked k → ⊥
