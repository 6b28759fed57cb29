use Rattle.std.proofs.Common.{ℕ, ◌<◌, ◌≡◌, ◌++◌, [], slice_index_or, string_bytes}
use Rattle.std.specs.List.{flat_map, range_with_len}
use Rattle.teg_critical.specs.declared.slacks.Slack.TheVariants.{NoCircuit}
use Rattle.teg_report.specs.SlackLines.{IsSlackKept, slack_line}
use Rattle.teg_text.specs.Lines.{line_then}
use Rattle.teg_report.proofs.slacks.slack.Given as goal

abbrev pub invariant-loop-index : goal.invariant-loop-index
invariant-loop-index l =
    (string_bytes l.text ≡ string_bytes l.initial.text ++ flat_map (λ i. line_then (slack_line l.net i (slice_index_or l.slacks i NoCircuit)) []) (range_with_len 0 l.index))
    × ((i : ℕ) → i < l.index → IsSlackKept (slice_index_or l.slacks i NoCircuit))
