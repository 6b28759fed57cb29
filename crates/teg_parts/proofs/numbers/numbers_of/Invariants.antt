use Rattle.std.proofs.Common.{ℕ, ◌≡◌, ◌<◌, Some, length, get_or}
use Rattle.teg_parts.specs.PartNumbers.{part_number}
use Rattle.teg_parts.proofs.numbers.numbers_of.Given as goal

abbrev pub invariant-loop-number : goal.invariant-loop-number
invariant-loop-number l = record {
  long : length l.plain.items ≡ l.number-index;
  same : (t : ℕ) → t < l.number-index → part_number l.numbers t ≡ Some (get_or l.plain.items t 0);
}
