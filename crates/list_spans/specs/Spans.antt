-- Working definitions of from where on the dates of input lists go on evenly.
use Rattle.std.specs.Prelude.{ℕ, ◌+◌, ◌<◌, ◌≤◌, ◌≡◌, List, length, slice_index_or}
use Rattle.dioid.specs.declared.dates.Date.{Date}
use Rattle.dioid.specs.Dates.{delayed}
use Rattle.teg_net.specs.Limits.{greatest_every, greatest_input_date, most_input_dates}
use Rattle.teg_net.specs.Nets.{NetLists}
use Rattle.list_spans.specs.declared.lists.Span.{Span}
use Rattle.list_spans.specs.ListDates.{date_of_list}

-- past its number the dates u go on by its gap in each so many numbers
pub record IsSpan (u : ℕ → Date) (span : Span) : Type 0 where
  pub some : 1 ≤ span.every
  pub again : (k : ℕ) → span.after < k → u (k + span.every) ≡ delayed span.gap (u k)
  pub after_in : span.after ≤ most_input_dates
  pub every_in : span.every ≤ greatest_every
  pub gap_in : span.gap ≤ greatest_input_date

-- each list of the net has its span
pub record AreSpans (net : NetLists) (spans : List Span) : Type 0 where
  pub count : length spans ≡ length net.inputs
  pub each : (list : ℕ) (other : Span) → list < length spans → IsSpan (date_of_list net list) (slice_index_or spans list other)
