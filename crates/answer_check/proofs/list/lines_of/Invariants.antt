use Rattle.std.proofs.Common.{◌≡◌, ◌++◌, [], length, string_bytes}
use Rattle.std.specs.List.{flat_map, range_with_len}
use Rattle.dating_certificates.specs.CheckedRows.{date_in_rows}
use Rattle.teg_text.specs.Lines.{line_then}
use Rattle.answer_check.specs.ShownLists.{row_line}
use Rattle.answer_check.proofs.list.lines_of.Given as goal

abbrev pub invariant-loop-before : goal.invariant-loop-before
invariant-loop-before l =
    string_bytes l.text ≡ string_bytes l.initial.text
    ++ flat_map (λ k. line_then (row_line (length l.net.transitions) (date_in_rows (length l.net.transitions) l.dates) k) []) (range_with_len 1 l.before)
