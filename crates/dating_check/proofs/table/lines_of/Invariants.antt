use Rattle.std.proofs.Common.{◌≡◌, ◌++◌, string_bytes}
use Rattle.std.specs.List.{flat_map, range_with_len}
use Rattle.teg_text.specs.Lines.{written}
use Rattle.dating_check.specs.ShownTables.{firing_lines}
use Rattle.dating_check.proofs.table.lines_of.Given as goal

abbrev pub invariant-loop-index : goal.invariant-loop-index
invariant-loop-index l = string_bytes l.text ≡ string_bytes l.initial.text
    ++ flat_map (λ t. written (firing_lines l.net l.rows.width l.rows.numbers l.rows.dates.now l.rows.ways.now t)) (range_with_len 0 l.index)
