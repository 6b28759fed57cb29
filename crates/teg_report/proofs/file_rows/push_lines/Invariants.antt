use Rattle.std.proofs.Common.{◌≡◌, ◌++◌, [], take, string_bytes}
use Rattle.std.specs.List.{flat_map}
use Rattle.teg_text.specs.Lines.{line_then, phrase}
use Rattle.teg_report.proofs.file_rows.push_lines.Given as goal

abbrev pub invariant-loop-line : goal.invariant-loop-line
invariant-loop-line l =
    string_bytes l.text ≡ string_bytes l.initial.text ++ flat_map (λ line. line_then (phrase (string_bytes line)) []) (take l.line-index l.lines)
