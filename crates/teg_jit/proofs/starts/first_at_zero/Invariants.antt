use Rattle.std.proofs.Common.{ℕ, ◌<◌}
use Rattle.teg_jit.specs.FirstLate.{IsDateAt}
use Rattle.teg_jit.proofs.starts.first_at_zero.Given as goal

abbrev pub invariant-loop-number : goal.invariant-loop-number
invariant-loop-number l = (t k : ℕ) → k < l.number → IsDateAt l.plan t k 0 → ⊥

abbrev pub invariant-loop-index : goal.invariant-loop-index
invariant-loop-index l = record {
  before : (t k : ℕ) → k < l.number → IsDateAt l.plan t k 0 → ⊥;
  here : (t : ℕ) → t < l.index → IsDateAt l.plan t l.number 0 → ⊥;
}
