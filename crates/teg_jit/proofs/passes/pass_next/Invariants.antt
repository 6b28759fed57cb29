use Rattle.std.proofs.Common.{ℕ, ◌*◌, ◌≡◌, length}
use Rattle.std.specs.Prelude.{Option}
use Rattle.teg_jit.specs.GoingBack.{AreNext, ArePassedAbove}
use Rattle.teg_jit.proofs.passes.pass_next.Given as goal

abbrev pub invariant-loop-index : goal.invariant-loop-index
invariant-loop-index l = record {
  full : length l.dates ≡ l.last * length l.net.transitions;
  passed : (due : ℕ → ℕ → Option ℕ) → ArePassedAbove l.net due l.last l.number l.fn.dates → AreNext l.net due l.last l.number l.index l.dates;
}
