use Rattle.std.proofs.Common.{◌≡◌, ◌++◌, [], slice_index_or, string_bytes}
use Rattle.std.specs.List.{flat_map, range_with_len}
use Rattle.teg_text.specs.Lines.{line_then}
use Rattle.answer_check.specs.declared.slack.ShownSlack.TheVariants.{NoCircuit}
use Rattle.answer_check.specs.ShownSlacks.{line_of_slack}
use Rattle.answer_check.proofs.slack.lines_of.Given as goal

abbrev pub invariant-loop-index : goal.invariant-loop-index
invariant-loop-index l =
    string_bytes l.text ≡ string_bytes l.initial.text ++ flat_map (λ i. line_then (line_of_slack l.net i (slice_index_or l.slacks i NoCircuit)) []) (range_with_len 0 l.index)
