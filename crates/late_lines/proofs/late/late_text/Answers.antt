use Rattle.std.proofs.Common.{rules, ◌≡◌, [], ◌++◌, List, ℕ, ap, ◌∙◌, string_bytes}
use Rattle.late_lines.specs.LateLines.{late_line, path_line, start_lines}
use Rattle.teg_text.specs.Lines.{line_then, written}
use Rattle.late_lines.proofs.PathsWritten.{between}
use Rattle.late_lines.proofs.late.late_text.Goals as goal

pub returns-clause-text : goal.returns-clause-text
returns-clause-text c =
    let net = c.args.net.now in
    let late = c.args.late in
    let walk = c.args.walk.now in
    let path = path_line net walk.start walk.number walk.steps.items in
    let bytes : c.into_bytes.result.items ≡ string_bytes c.push_path.new.text = search rules in
    bytes ∙ (c.in_ok-push_path.ensures.text
    ∙ (ap (λ (t : List ℕ). t ++ line_then path [])
    (c.in_ok-push_start.ensures.text ∙ ap (λ (t : List ℕ). t ++ written (start_lines late.start)) c.in_ok-text.ensures.text)
    ∙ between (late_line net late.transition late.number late.due late.least) path (start_lines late.start)))

pub returns-clause-kept : goal.returns-clause-kept
returns-clause-kept c =
    let numbers = c.in_ok-text.ensures.kept in
    record { number = numbers.0; due = numbers.1; least = numbers.2; start = c.in_ok-push_start.ensures.kept; first = c.in_ok-push_path.ensures.first }
