use Rattle.std.proofs.Common.{◌≡◌, ◌++◌, ◌∷◌, [], List, ℕ, All, length, map, drop, ap, ◌∙◌, subst, string_bytes, arith}
use Rattle.std.proofs.lemmas.List.{length-append}
use Rattle.std.proofs.Math.Seq.{drop-append_seam}
use Rattle.teg_report.specs.AnswerMeanings.{times_from}
use Rattle.teg_report.specs.declared.answer.TransferFrom.{TransferFrom}
use Rattle.teg_report.specs.SettledTexts.{AreTimesKept, from_lines, transfer_lines}
use Rattle.teg_report.specs.teg_text.Lines.{written}
use Rattle.teg_transfer.proofs.TransferTexts.{one_alone}
use Rattle.teg_transfer.proofs.texts.push_times.Goals as goal

pub behind-lines-requires : goal.behind-lines-requires
behind-lines-requires c =
    let net = c.args.net.now in
    let from = times_from c.args.times.now in
    let first = string_bytes c.in_ok-first.first in
    let lines = written (from_lines net from) in
    let alone = c.in_ok-alone.alone.items in
    let told : alone ≡ written (transfer_lines net (from ∷ [])) =
    c.in_ok-alone.ensures.text ∙ ap (λ (all : List TransferFrom). written (transfer_lines net (map times_from all))) c.from_ref-inputs.ensures.value in
    let whole : alone ≡ first ++ lines = one_alone net from first alone told c.in_ok-first.ensures in
    omega (arith, ap length whole, length-append first lines, ap length c.as_slice.ensures.value, ap length c.as_bytes.ensures.value)

pub returns-clause-text : goal.returns-clause-text
returns-clause-text c =
    let net = c.args.net.now in
    let from = times_from c.args.times.now in
    let before = c.args.text.now.items in
    let first = string_bytes c.in_ok-first.first in
    let lines = written (from_lines net from) in
    let alone = c.in_ok-alone.alone.items in
    let told : alone ≡ written (transfer_lines net (from ∷ [])) =
    c.in_ok-alone.ensures.text ∙ ap (λ (all : List TransferFrom). written (transfer_lines net (map times_from all))) c.from_ref-inputs.ensures.value in
    let whole : alone ≡ first ++ lines = one_alone net from first alone told c.in_ok-first.ensures in
    let same : c.behind-lines.result.now ≡ drop (length first) alone =
    c.behind-lines.ensures
    ∙ (ap (λ (l : List ℕ). drop (length l) c.as_slice.result.now) c.as_bytes.ensures.value
    ∙ ap (drop (length first)) c.as_slice.ensures.value) in
    c.in_ok-extend_from_slice.ensures.items ∙ ap (λ (l : List ℕ). before ++ l) (same ∙ (ap (drop (length first)) whole ∙ drop-append_seam first lines))

pub returns-clause-kept : goal.returns-clause-kept
returns-clause-kept c =
    let from = times_from c.args.times.now in
    let kept : All AreTimesKept (from ∷ []) =
    subst (λ (all : List TransferFrom). All AreTimesKept (map times_from all)) c.from_ref-inputs.ensures.value (c.in_ok-alone.ensures.told tt).kept in
    kept 0 from (omega arith)
