use Rattle.std.proofs.Common.{ℕ, ◌≡◌, ◌<◌, length, get_or}
use Rattle.teg_settle.proofs.settled.numbers_below.Given as goal

abbrev pub invariant-loop-index : goal.invariant-loop-index
invariant-loop-index l = record {
  count : length l.numbers.items ≡ l.index;
  each : (i : ℕ) → i < l.index → get_or l.numbers.items i 0 ≡ i;
}
