use Rattle.std.proofs.Common.{◌≡◌, ◌++◌, ◌∷◌}
use Rattle.std.specs.Prelude.{string_bytes}
use Rattle.std.specs.Fmt.{decimal}
use Rattle.std.specs.List.{flat_map, range_with_len}
use Rattle.delay_check.specs.DelayRows.{delay_by_rows}
use Rattle.delay_check.proofs.spread_text.push_line.Given as goal

abbrev pub invariant-loop-before : goal.invariant-loop-before
invariant-loop-before l =
    string_bytes l.text ≡ string_bytes l.initial.text
    ++ flat_map (λ k. 32 ∷ decimal (delay_by_rows l.rows.width l.rows.dates.now l.rows.after l.rows.turn l.rows.steps.now l.planned.period l.planned.table.now l.index k))
    (range_with_len 1 l.before)
