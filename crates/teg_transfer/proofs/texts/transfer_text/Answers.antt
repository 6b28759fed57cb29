use Rattle.std.proofs.Common.{rules, ◌≡◌, [], length, ap, ◌∙◌, string_bytes, arith}
use Rattle.std.proofs.lemmas.Result.{IfOk-weaker}
use Rattle.teg_net.specs.declared.entries.Role.TheVariants.{Input}
use Rattle.teg_net.specs.Nets.{NetLists}
use Rattle.teg_report.specs.SettledTexts.{output_count, transfer_line}
use Rattle.teg_report.specs.teg_text.Lines.{line_then}
use Rattle.teg_transfer.specs.TimesFromInputs.{those_of_role}
use Rattle.teg_transfer.specs.TransferTexts.{AreToldBehind, IsTransferText}
use Rattle.teg_transfer.proofs.TransferTexts.{all_told}
use Rattle.teg_transfer.proofs.texts.transfer_text.Goals as goal

pub returns-clause-text : goal.returns-clause-text
returns-clause-text c =
    let net = c.args.net.now in
    let limit = c.args.limit in
    let inputs = c.as_slice.result.now in
    let first = c.into_bytes.result.items in
    let count = c.len.result in
    let are : inputs ≡ those_of_role net Input = c.as_slice.ensures.value ∙ (c.in_ok-inputs.ensures ∙ ap (λ (n : NetLists). those_of_role n Input) c.net.ensures.net) in
    let counted : count ≡ length inputs = omega (arith, c.len.ensures, c.as_slice.ensures.len) in
    let bytes : first ≡ string_bytes c.in_ok-line.line = search rules in
    let line : first ≡ line_then (transfer_line count (output_count net)) [] =
    bytes ∙ (c.in_ok-line.ensures ∙ ap (λ (n : NetLists). line_then (transfer_line count (output_count n)) []) c.net-4.ensures.net) in
    IfOk-weaker c.tell_all.result (λ text. AreToldBehind net limit inputs first text.items) (λ text. IsTransferText net limit text.items)
    (λ text h. all_told net limit count inputs first text.items are counted line h) c.tell_all.ensures.text
