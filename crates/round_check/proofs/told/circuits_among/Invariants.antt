use Rattle.std.proofs.Common.{◌≡◌, ◌≤◌, map, take}
use Rattle.teg_lines.specs.CycleMeanings.{part_lists}
use Rattle.teg_lines.specs.RoundLines.{circuits_in}
use Rattle.round_check.proofs.told.circuits_among.Given as goal

abbrev pub invariant-loop-number : goal.invariant-loop-number
invariant-loop-number l = (l.count ≡ circuits_in (take l.number (map part_lists l.parts))) × (l.count ≤ l.number)
