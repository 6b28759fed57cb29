use Rattle.std.proofs.Common.{◌≡◌, ◌++◌, string_bytes}
use Rattle.std.specs.List.{flat_map, range_with_len}
use Rattle.teg_lines.specs.CycleLines.{part_lines, told_part_at}
use Rattle.teg_lines.specs.CycleMeanings.{cycle_lists}
use Rattle.teg_text.specs.Lines.{written}
use Rattle.teg_lines.proofs.cycles.cycle_times.Given as goal

abbrev pub invariant-loop-number : goal.invariant-loop-number
invariant-loop-number l =
    string_bytes l.text ≡ string_bytes l.initial.text
    ++ flat_map (λ n. written (part_lines l.net (cycle_lists l.answer).part_of n (told_part_at (cycle_lists l.answer).parts n))) (range_with_len 0 l.number)
