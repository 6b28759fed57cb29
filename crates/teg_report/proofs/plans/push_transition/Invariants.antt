use Rattle.std.proofs.Common.{ℕ, ◌+◌, ◌<◌, ◌≡◌, ◌++◌, [], string_bytes}
use Rattle.std.specs.List.{flat_map, range_with_len}
use Rattle.teg_jit.specs.Plans.{latest_at}
use Rattle.teg_report.specs.PlanLines.{IsLatestKept, planned_line}
use Rattle.teg_text.specs.Lines.{line_then}
use Rattle.teg_report.proofs.plans.push_transition.Given as goal

abbrev pub invariant-loop-number : goal.invariant-loop-number
invariant-loop-number l =
    (string_bytes l.text ≡ string_bytes l.initial.text ++ flat_map (λ k. line_then (planned_line l.net l.plan l.index k) []) (range_with_len 0 l.number))
    × ((k : ℕ) → k < l.number → IsLatestKept (latest_at l.plan l.index (k + 1)))
