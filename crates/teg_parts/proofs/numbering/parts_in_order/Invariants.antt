use Rattle.std.proofs.Common.{◌≤◌, ◌+◌, length}
use Rattle.teg_parts.specs.PartNumbers.{ArePartsNumbered, without}
use Rattle.teg_parts.proofs.numbering.parts_in_order.Given as goal

abbrev pub invariant-number : goal.invariant-number
invariant-number l = record {
  numbered : ArePartsNumbered l.net l.components l.numbers.items l.next;
  few : l.next + without l.numbers.items ≤ length l.components;
}

abbrev pub decreases-number : goal.decreases-number
decreases-number l = without l.numbers.items
