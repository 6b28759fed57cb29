use Rattle.std.proofs.Common.{rules, ◌≡◌, [], ◌++◌, List, ℕ, ◌<◌, length, map, slice_index_or, subst, ap, sym, ◌∙◌, string_bytes, arith}
use Rattle.std.proofs.lemmas.List.{get_or_default}
use Rattle.std.specs.List.{range_with_len}
use Rattle.teg_critical.specs.declared.slacks.Slack.{Slack}
use Rattle.teg_critical.specs.declared.slacks.Slack.TheVariants.{NoCircuit}
use Rattle.teg_report.specs.SlackLines.{IsSlackKept, cycle_time_line, slack_line}
use Rattle.teg_text.specs.Lines.{line_then, written}
use Rattle.teg_text.proofs.Joining.{line_append, lines_end}
use Rattle.teg_text.proofs.Listing.{all_below, more_after}
use Rattle.teg_report.proofs.slacks.slack.Goals as goal

pub loop-index-preserved : goal.loop-index-preserved
loop-index-preserved c =
    let net = c.args.net.now in
    let slacks = c.args.slacks.now in
    let k = c.loop-index.index in (
      more_after (λ i. line_then (slack_line net i (slice_index_or slacks i NoCircuit)) []) _ _ _ _ 0 k k (omega arith)
          c.in_ok-push_slack.ensures.text (ap (λ (s : Slack). line_then (slack_line net k s) []) c.slack.ensures) c.loop-index.invariant.0,
      all_below (λ i. IsSlackKept (slice_index_or slacks i NoCircuit)) k c.loop-index.invariant.1 (subst IsSlackKept c.slack.ensures c.in_ok-push_slack.ensures.kept),
    )

pub returns-clause-text : goal.returns-clause-text
returns-clause-text c =
    let net = c.args.net.now in
    let slacks = c.args.slacks.now in
    let line : ℕ → List (List ℕ) = λ i. slack_line net i (slice_index_or slacks i NoCircuit) in
    let lines = map line (range_with_len 0 (length slacks)) in
    let all : c.loop-index.index ≡ length slacks =
    omega (arith, c.loop-index-test.false, c.loop-index.auto.index-end, c.requires, ap length c.places-index-end.ensures.value) in
    let bytes : c.into_bytes.result.items ≡ string_bytes c.loop-index.text = search rules in
    bytes ∙ (lines_end line (range_with_len 0 (length slacks)) (string_bytes c.push_cycle_time.new.text) _ (rw all at c.loop-index.invariant.0)
    ∙ (ap (λ (l : List ℕ). l ++ written lines)
    (c.in_ok-push_cycle_time.ensures.text ∙ ap (λ (l : List ℕ). l ++ line_then (cycle_time_line c.args.ratio) []) c.new-text.ensures.bytes)
    ∙ sym (line_append (cycle_time_line c.args.ratio) (written lines))))

pub returns-clause-slacks : goal.returns-clause-slacks
returns-clause-slacks c i d l =
    let slacks = c.args.slacks.now in
    let within : i < c.loop-index.index = omega (arith, l, c.loop-index-test.false, c.requires, ap length c.places-index-end.ensures.value) in
    subst IsSlackKept (get_or_default slacks i NoCircuit d l) (c.loop-index.invariant.1 i within)
