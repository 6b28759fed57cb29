use Rattle.std.proofs.Common.{ℕ, ◌*◌, ◌≡◌, length}
use Rattle.std.specs.Prelude.{Option}
use Rattle.teg_jit.specs.GoingBack.{AreNext, ArePassed}
use Rattle.teg_jit.proofs.passes.pass_places.Given as goal

abbrev pub invariant-loop-depth : goal.invariant-loop-depth
invariant-loop-depth l = record {
  full : length l.dates ≡ l.last * length l.net.transitions;
  passed : (due : ℕ → ℕ → Option ℕ) → AreNext l.net due l.last l.number (length l.net.transitions) l.fn.dates
      → ArePassed l.net due l.order l.last l.number (length l.net.transitions) l.depth-index l.depth-index l.dates;
}
