use Rattle.std.proofs.Common.{rules, ◌≡◌, ◌+◌, List, ℕ, [], ◌++◌, ap, ◌∙◌, string_bytes}
use Rattle.teg_text.specs.Lines.{line_then, written}
use Rattle.teg_text.specs.WordsOfNames.{settled_words}
use Rattle.delay_check.specs.DelayRows.{delay_by_rows}
use Rattle.delay_check.specs.ShownDelays.{delays_lines}
use Rattle.delay_check.proofs.spread_text.text_by_rows.Goals as goal

pub returns : goal.returns
returns c =
    let r = c.args.rows.now in
    let p = c.args.planned.now in
    let outcome = c.args.outcome.now in
    let delays = delays_lines p.net.now (delay_by_rows r.width r.dates.now r.after r.turn r.steps.now p.period p.table.now) (r.after + r.turn) in
    let head : string_bytes c.push_settled.new.text ≡ line_then (settled_words r.after r.turn) [] = search rules in
    c.in_ok-push_lines.ensures ∙ ap (λ (l : List ℕ). l ++ written delays) (c.in_ok-push_str.ensures.bytes ∙ ap (λ (l : List ℕ). l ++ outcome) head)
