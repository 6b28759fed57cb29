use Rattle.std.proofs.Common.{rules, ◌≡◌, ◌<◌, [], ◌++◌, List, ℕ, length, map, get_or, refl, subst, ap, sym, ◌∙◌, string_bytes, arith}
use Rattle.std.specs.List.{flat_map}
use Rattle.std.proofs.lemmas.List.{get_or-map, length-map, take_all}
use Rattle.teg_report.specs.SettledTexts.{AreTimesKept, AreTimesIn, TimesFrom, from_lines, output_count, transfer_line}
use Rattle.teg_report.specs.AnswerMeanings.{times_from}
use Rattle.teg_text.specs.Lines.{line_then, written}
use Rattle.teg_text.proofs.Joining.{line_append, written_flat_map}
use Rattle.teg_text.proofs.Listing.{all_items, more_items}
use Rattle.teg_report.proofs.settled.transfer.Goals as goal

pub push_from-requires : goal.push_from-requires
push_from-requires c =
    let inputs = c.args.inputs.now in
    let item = c.from-item.result in
    let i = c.loop-from.from-index in
    let within = c.loop-from-test.true in
    let same : times_from item ≡ get_or (map times_from inputs) i (times_from item) = ap times_from c.from-item.is ∙ sym (get_or-map times_from inputs i item (times_from item) within) in
    subst (AreTimesIn c.args.net.now) (sym same) (c.requires i (times_from item) (omega (arith, within, length-map inputs times_from)))

pub loop-from-preserved : goal.loop-from-preserved
loop-from-preserved c =
    let net = c.args.net.now in
    let inputs = c.args.inputs.now in
    let item = c.from-item.result in
    let i = c.loop-from.from-index in
    let text = string_bytes c.loop-from.text in
    let within : i < length (map times_from inputs) = omega (arith, c.loop-from-test.true, length-map inputs times_from) in
    let same : times_from item ≡ get_or (map times_from inputs) i (times_from item) = ap times_from c.from-item.is
    ∙ sym (get_or-map times_from inputs i item (times_from item) c.loop-from-test.true) in (
      more_items (λ x. written (from_lines net x)) (string_bytes c.in_ok-text.text) text _ (map times_from inputs) (map times_from inputs) i (times_from item) refl within
          (c.in_ok-push_from.ensures.text ∙ ap (λ (x : TimesFrom). text ++ written (from_lines net x)) same) c.loop-from.invariant.0,
      all_items AreTimesKept (map times_from inputs) (map times_from inputs) i (times_from item) refl within (subst AreTimesKept same c.in_ok-push_from.ensures.kept) c.loop-from.invariant.1,
    )

pub returns-clause-text : goal.returns-clause-text
returns-clause-text c =
    let net = c.args.net.now in
    let inputs = map times_from c.args.inputs.now in
    let all = take_all c.loop-from.from-index inputs (omega (arith, c.loop-from-test.false, length-map c.args.inputs.now times_from)) in
    let bytes : c.into_bytes.result.items ≡ string_bytes c.loop-from.text = search rules in
    let line = transfer_line (length inputs) (output_count net) in
    let head : string_bytes c.in_ok-text.text ≡ line_then line [] = rw (length-map c.args.inputs.now times_from) (rw (← c.outputs-outputs.ensures) c.in_ok-text.ensures.ok) in
    bytes ∙ (rw all at c.loop-from.invariant.0
    ∙ (ap (λ (l : List ℕ). l ++ flat_map (λ x. written (from_lines net x)) inputs) head
    ∙ (ap (λ (l : List ℕ). line_then line [] ++ l) (sym (written_flat_map (from_lines net) inputs)) ∙ sym (line_append line (written (flat_map (from_lines net) inputs))))))

pub returns-clause-kept : goal.returns-clause-kept
returns-clause-kept c =
    let inputs = map times_from c.args.inputs.now in
    let all = take_all c.loop-from.from-index inputs (omega (arith, c.loop-from-test.false, length-map c.args.inputs.now times_from)) in
    rw all at c.loop-from.invariant.1
