use Rattle.std.proofs.Common.{◌≡◌, ◌++◌, ◌+◌, ◌*◌, ◌-◌, [], slice_index_or, None, string_bytes}
use Rattle.std.specs.List.{flat_map, range_with_len}
use Rattle.teg_text.specs.Lines.{line_then}
use Rattle.dating_certificates.specs.CheckedRows.{date_in_rows}
use Rattle.dating_check.specs.ShownTables.{firing_line}
use Rattle.dating_check.proofs.table.push_firings.Given as goal

abbrev pub invariant-loop-before : goal.invariant-loop-before
invariant-loop-before l = string_bytes l.text ≡ string_bytes l.initial.text
    ++ flat_map (λ k. line_then (firing_line l.net l.index k (date_in_rows l.rows.width l.rows.dates.now l.index k)
    (slice_index_or l.rows.ways.now ((k - 1) * l.rows.width + l.index) None)) []) (range_with_len 1 l.before)
