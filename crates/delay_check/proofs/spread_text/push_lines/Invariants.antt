use Rattle.std.proofs.Common.{◌≡◌, ◌++◌, [], string_bytes}
use Rattle.std.specs.List.{flat_map, range_with_len}
use Rattle.teg_text.specs.Lines.{line_then}
use Rattle.delay_check.specs.DelayRows.{delay_by_rows}
use Rattle.delay_check.specs.ShownDelays.{delays_line}
use Rattle.delay_check.proofs.spread_text.push_lines.Given as goal

abbrev pub invariant-loop-index : goal.invariant-loop-index
invariant-loop-index l =
    string_bytes l.text ≡ string_bytes l.initial.text
    ++ flat_map (λ i. line_then (delays_line l.planned.net.now i
    (delay_by_rows l.rows.width l.rows.dates.now l.rows.after l.rows.turn l.rows.steps.now l.planned.period l.planned.table.now i) l.rows.count) [])
    (range_with_len 0 l.index)
