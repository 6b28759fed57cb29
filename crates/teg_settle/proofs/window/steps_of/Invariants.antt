use Rattle.std.proofs.Common.{ℕ, ◌≡◌, ◌<◌, length, get_or, pos}
use Rattle.teg_settle.specs.ComparedRows.{read_step}
use Rattle.teg_settle.proofs.window.steps_of.Given as goal

abbrev pub invariant-loop-index : goal.invariant-loop-index
invariant-loop-index l = record {
  count : length l.steps.items ≡ l.index;
  each : (t : ℕ) → t < l.index → get_or l.steps.items t (pos 0) ≡ read_step l.rows l.period t;
}
