use Rattle.std.proofs.Common.{rules, ◌≡◌, ◌++◌, List, ℕ, codes, map, ap, sym, ◌∙◌, string_bytes}
use Rattle.std.specs.Option.{option_copied}
use Rattle.teg_report.specs.FileRows.{failure_words}
use Rattle.teg_text.specs.Faults.{row_line}
use Rattle.teg_report.specs.Reports.{names_from}
use Rattle.teg_text.specs.Lines.{phrase, written}
use Rattle.teg_text.proofs.Joining.{line_append}
use Rattle.teg_report.proofs.file_rows.refused.Goals as goal

pub returns-clause-text : goal.returns-clause-text
returns-clause-text c =
    let line = row_line (codes "log") c.args.row (failure_words (names_from (option_copied c.args.net)) c.args.failure) in
    let lines = map phrase (map string_bytes c.args.lines.now) in
    let bytes : c.into_bytes.result.items ≡ string_bytes c.push_lines.new.text = search rules in
    bytes ∙ (c.in_ok-push_lines.ensures ∙ (ap (λ (l : List ℕ). l ++ written lines) c.in_ok-text.ensures.text ∙ sym (line_append line (written lines))))
