use Rattle.std.proofs.Common.{ℕ, ◌+◌, ◌≡◌, List, [], ◌++◌, length, map, refl, ap, ◌∙◌, string_bytes, arith}
use Rattle.std.specs.List.{range_with_len}
use Rattle.dating_certificates.specs.CheckedRows.{date_in_rows}
use Rattle.teg_text.specs.Lines.{line_then, written}
use Rattle.teg_text.proofs.Joining.{lines_end, head_then}
use Rattle.teg_text.proofs.Listing.{more_after}
use Rattle.answer_check.specs.ShownLists.{all_names_line, count_line, row_line}
use Rattle.answer_check.proofs.list.lines_of.Goals as goal

pub loop-before-preserved : goal.loop-before-preserved
loop-before-preserved c =
    let net = c.args.net.now in
    let pushed = rw c.transitions-width.ensures.value at c.in_ok-push_row.ensures in
    let k = c.loop-before.before in
    more_after (λ j. line_then (row_line (length net.transitions) (date_in_rows (length net.transitions) c.args.dates.now) j) []) _ _ _ _ 1 k (k + 1) (omega arith)
    pushed refl c.loop-before.invariant

pub returns : goal.returns
returns c =
    let net = c.args.net.now in
    let count = c.args.count in
    let f = row_line (length net.transitions) (date_in_rows (length net.transitions) c.args.dates.now) in
    let all : c.loop-before.before ≡ count = omega (arith, c.loop-before-test.false, c.loop-before.auto.before-end) in
    let lines = map f (range_with_len 1 count) in
    lines_end f (range_with_len 1 count) (string_bytes c.in_ok-text.text) _ (rw all at c.loop-before.invariant)
    ∙ (ap (λ (l : List ℕ). l ++ written lines) c.in_ok-text.ensures ∙ head_then (count_line count) (all_names_line net) lines)
