use Rattle.std.proofs.Common.{ℕ, ◌<◌, ◌^◌, ◌≡◌, ◌++◌, [], All, unsigned_abs, string_bytes}
use Rattle.std.specs.List.{flat_map, range_with_len}
use Rattle.settled_laws.specs.SettledForms.{row_of, step_of_form}
use Rattle.teg_report.specs.SettledTexts.{settled_line}
use Rattle.teg_text.specs.Lines.{line_then}
use Rattle.teg_text.specs.ValueWords.{IsDate}
use Rattle.teg_date_commands.proofs.told_dates.dates_text.Given as goal

abbrev pub invariant-loop-index : goal.invariant-loop-index
invariant-loop-index l =
    (string_bytes l.text ≡ string_bytes l.initial.text ++ flat_map (λ t. line_then (settled_line l.net l.settled t) []) (range_with_len 0 l.index))
    × ((t : ℕ) → t < l.index → All IsDate (row_of l.settled t) × (unsigned_abs (step_of_form l.settled t) < 2 ^ 128))
