use Rattle.std.proofs.Common.{ℕ, ◌≡◌, ◌+◌, ◌<◌}
use Rattle.dioid.specs.Dates.{delayed}
use Rattle.list_spans.specs.ListDates.{date_of_list}
use Rattle.list_spans.proofs.lists.goes_on_for.Given as goal

abbrev pub invariant-loop-number : goal.invariant-loop-number
invariant-loop-number l = (k : ℕ) → l.span.after < k → k < l.number → date_of_list l.net l.list (k + l.span.every) ≡ delayed l.span.gap (date_of_list l.net l.list k)
