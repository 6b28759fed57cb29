use Rattle.std.proofs.Common.{rules, ◌≡◌, [], ◌++◌, List, ℕ, ap, ◌∙◌, string_bytes}
use Rattle.teg_report.specs.PlanLines.{late_line, path_line, start_lines}
use Rattle.teg_text.specs.Lines.{line_then, written}
use Rattle.teg_report.proofs.PlansWritten.{between}
use Rattle.teg_report.proofs.plans.late.Goals as goal

pub returns-clause-text : goal.returns-clause-text
returns-clause-text c =
    let net = c.args.net.now in
    let l = c.in-Late in
    let path = path_line net l.walk.start l.walk.number l.walk.steps.items in
    let bytes : c.into_bytes.result.items ≡ string_bytes c.push_path.new.text = search rules in
    rw c.in-Late.is
    (bytes ∙ (c.in_ok-push_path-in-Late.ensures.text
    ∙ (ap (λ (t : List ℕ). t ++ line_then path [])
    (c.in_ok-push_start-in-Late.ensures.text ∙ ap (λ (t : List ℕ). t ++ written (start_lines l.start)) c.in_ok-text-in-Late.ensures.text)
    ∙ between (late_line net l.transition l.number l.due l.least) path (start_lines l.start))))

pub returns-clause-kept : goal.returns-clause-kept
returns-clause-kept c =
    let numbers = c.in_ok-text-in-Late.ensures.kept in
    rw c.in-Late.is (record { number = numbers.0; due = numbers.1; least = numbers.2; start = c.in_ok-push_start-in-Late.ensures.kept; first = c.in_ok-push_path-in-Late.ensures.first })
