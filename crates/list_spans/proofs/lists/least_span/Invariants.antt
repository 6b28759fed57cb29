use Rattle.list_spans.specs.ListDates.{date_of_list}
use Rattle.list_spans.specs.Spans.{IsSpan}
use Rattle.list_spans.proofs.lists.least_span.Given as goal

abbrev pub invariant-loop-span : goal.invariant-loop-span
invariant-loop-span l = IsSpan (date_of_list l.net l.list) l.span

abbrev pub decreases-loop-span : goal.decreases-loop-span
decreases-loop-span l = l.span.after
