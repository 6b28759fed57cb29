use Rattle.std.proofs.Common.{◌≡◌, ◌++◌, [], string_bytes}
use Rattle.std.specs.List.{flat_map, range_with_len}
use Rattle.teg_text.specs.Lines.{line_then}
use Rattle.settled_certificates.specs.SettledRows.{form_by_rows}
use Rattle.settled_check.specs.ShownForms.{form_line}
use Rattle.settled_check.proofs.settled.lines_of.Given as goal

abbrev pub invariant-loop-index : goal.invariant-loop-index
invariant-loop-index l = string_bytes l.text ≡ string_bytes l.initial.text
    ++ flat_map (λ t. line_then (form_line l.net (form_by_rows l.form.width l.form.dates.now l.form.after l.form.period l.form.steps.now) t) []) (range_with_len 0 l.index)
