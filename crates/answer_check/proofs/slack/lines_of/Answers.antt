use Rattle.std.proofs.Common.{rules, ℕ, ◌≡◌, List, [], ◌++◌, length, map, slice_index_or, refl, ap, sym, ◌∙◌, string_bytes, arith}
use Rattle.std.specs.List.{range_with_len}
use Rattle.teg_text.specs.Lines.{line_then, written}
use Rattle.teg_text.proofs.Joining.{line_append, lines_end}
use Rattle.teg_text.proofs.Listing.{more_after}
use Rattle.answer_check.specs.declared.slack.ShownSlack.TheVariants.{NoCircuit}
use Rattle.answer_check.specs.ShownSlacks.{line_of_pace, line_of_slack}
use Rattle.answer_check.proofs.slack.lines_of.Goals as goal

pub loop-index-preserved : goal.loop-index-preserved
loop-index-preserved c =
    let net = c.args.net.now in
    let slacks = c.args.slacks.now in
    let k = c.loop-index.index in
    more_after (λ i. line_then (line_of_slack net i (slice_index_or slacks i NoCircuit)) []) _ _ _ _ 0 k k (omega arith) c.in_ok-push_slack.ensures refl c.loop-index.invariant

pub returns : goal.returns
returns c =
    let net = c.args.net.now in
    let slacks = c.args.slacks.now in
    let line : ℕ → List (List ℕ) = λ i. line_of_slack net i (slice_index_or slacks i NoCircuit) in
    let count = length net.places in
    let lines = map line (range_with_len 0 count) in
    let all : c.loop-index.index ≡ count = omega (arith, c.loop-index-test.false, c.loop-index.auto.index-end, ap length c.places-index-end.ensures.value) in
    let head : string_bytes c.push_pace.new.text ≡ line_then (line_of_pace c.args.ratio) [] = search rules in
    lines_end line (range_with_len 0 count) (string_bytes c.push_pace.new.text) _ (rw all at c.loop-index.invariant)
    ∙ (ap (λ (l : List ℕ). l ++ written lines) head ∙ sym (line_append (line_of_pace c.args.ratio) (written lines)))
