use Rattle.std.proofs.Common.{ℕ, ◌<◌, ◌≤◌, ◌≡◌, ◌⊎◌, length}
use Rattle.teg_timetable.specs.Spreads.{delay_left}
use Rattle.teg_timetable.proofs.late.last_late.Given as goal

abbrev pub invariant-loop-number : goal.invariant-loop-number
invariant-loop-number l = record {
  before : l.last < l.number;
  none : (i k : ℕ) → i < length l.left.firsts → l.last < k → k < l.number → delay_left l.left i k ≡ 0;
  last : (l.last ≡ 0) ⊎ ((i : ℕ) × (i < length l.left.firsts) × (1 ≤ delay_left l.left i l.last));
}
