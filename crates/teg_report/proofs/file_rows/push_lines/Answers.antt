use Rattle.std.proofs.Common.{[], ◌∷◌, ◌++◌, List, ℕ, ap, ◌∙◌, append_assoc, string_bytes, arith}
use Rattle.teg_report.proofs.FileRowsWritten.{all_lines, one_line_more}
use Rattle.teg_report.proofs.file_rows.push_lines.Goals as goal

pub loop-line-preserved : goal.loop-line-preserved
unfolding lib.Utf8.encode
loop-line-preserved c =
    let before = string_bytes c.loop-line.text in
    let pushed = c.in_ok-push.ensures.bytes
    ∙ (ap (λ (l : List ℕ). l ++ 10 ∷ []) (c.in_ok-push_str.ensures.bytes ∙ ap (λ (l : List ℕ). before ++ l) (c.as_str.ensures.value ∙ ap string_bytes c.line-item.is))
    ∙ append_assoc before _ (10 ∷ [])) in
    one_line_more string_bytes (string_bytes c.args.text.now) before _ c.args.lines.now c.loop-line.line-index c.line-item.result c.loop-line-test.true pushed c.loop-line.invariant

pub returns : goal.returns
returns c = all_lines string_bytes (string_bytes c.args.text.now) _ c.args.lines.now c.loop-line.line-index (omega (arith, c.loop-line-test.false)) c.loop-line.invariant
