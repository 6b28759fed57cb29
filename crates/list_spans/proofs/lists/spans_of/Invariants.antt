use Rattle.std.proofs.Common.{ℕ, ◌≡◌, ◌<◌, length}
use Rattle.std.specs.Prelude.{slice_index_or}
use Rattle.list_spans.specs.declared.lists.Span.{Span}
use Rattle.list_spans.specs.ListDates.{date_of_list}
use Rattle.list_spans.specs.Spans.{IsSpan}
use Rattle.list_spans.proofs.lists.spans_of.Given as goal

abbrev pub invariant-loop-list : goal.invariant-loop-list
invariant-loop-list l = record {
  count : length l.spans.items ≡ l.list;
  each : (i : ℕ) (other : Span) → i < l.list → IsSpan (date_of_list l.net i) (slice_index_or l.spans.items i other);
}
