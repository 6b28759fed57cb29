use Rattle.std.proofs.Common.{ℕ, ◌<◌}
use Rattle.teg_jit.specs.FirstLate.{IsReadyFrom}
use Rattle.teg_jit.proofs.starts.first_when_ready.Given as goal

abbrev pub invariant-loop-index : goal.invariant-loop-index
invariant-loop-index l = (q k : ℕ) → q < l.index → IsReadyFrom l.net l.plan q k → ⊥

abbrev pub invariant-loop-token : goal.invariant-loop-token
invariant-loop-token l = record {
  before : (q k : ℕ) → q < l.index → IsReadyFrom l.net l.plan q k → ⊥;
  here : (k : ℕ) → k < l.token → IsReadyFrom l.net l.plan l.index k → ⊥;
}
