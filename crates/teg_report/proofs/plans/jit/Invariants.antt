use Rattle.std.proofs.Common.{ℕ, ◌+◌, ◌<◌, ◌≡◌, ◌++◌, string_bytes}
use Rattle.std.specs.List.{flat_map, range_with_len}
use Rattle.teg_jit.specs.Plans.{latest_at}
use Rattle.teg_report.specs.PlanLines.{IsLatestKept, planned_lines}
use Rattle.teg_text.specs.Lines.{written}
use Rattle.teg_report.proofs.plans.jit.Given as goal

abbrev pub invariant-loop-index : goal.invariant-loop-index
invariant-loop-index l =
    (string_bytes l.text ≡ string_bytes l.initial.text ++ flat_map (λ t. written (planned_lines l.net l.plan t)) (range_with_len 0 l.index))
    × ((t : ℕ) → t < l.index → (k : ℕ) → k < l.plan.numbers → IsLatestKept (latest_at l.plan t (k + 1)))
