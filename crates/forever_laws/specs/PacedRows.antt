-- Rows whose due dates rise as fast as the dates that lead to them: what is late of such a row is late soon.
use Rattle.std.specs.Prelude.{ℕ, ◌+◌, ◌*◌, ◌≤◌, List, [], length, All}
use Rattle.walk_times.specs.dioid.declared.dates.Date.{Date}
use Rattle.teg_net.specs.declared.entries.PlaceId.{PlaceId}
use Rattle.teg_net.specs.Nets.{NetLists, HasEndsInRange}
use Rattle.teg_net.specs.Circuits.{IsPathBetween, IsLive, time_of, tokens_of}
use Rattle.walk_times.specs.teg_model.Datings.{IsLeastUnder}
use Rattle.due_laws.specs.MeetingDueDates.{InputsMeet, inputs_at_zero}
use Rattle.endless_due.specs.declared.row.EndlessRow.{EndlessRow}
use Rattle.endless_due.specs.EndlessRows.{IsEndlessRow, due_on}
use Rattle.forever_laws.specs.Late.{NoneLateTo, NoneLate}

-- no closed path from which one leads to the row's transition has a greater ratio of time to tokens than the row of gap to firings
abbrev pub KeepsPace : NetLists → EndlessRow → Type 0
KeepsPace net r =
    (round way : List PlaceId) (s : ℕ) → IsPathBetween net s round s → IsPathBetween net s way r.transition.index
    → r.every * time_of net round ≤ r.gap * tokens_of net round

-- the number up to which a row that keeps pace has a late number, if it has one, where each place has at most so many tokens
abbrev pub paced_bound : NetLists → ℕ → EndlessRow → ℕ
paced_bound net most r = length r.dates + r.every * (length net.transitions * most) + most

-- with all inputs at 0 a row that keeps pace has no late number where it has none up to that
abbrev pub PacedLateIsSoon : Type 0
PacedLateIsSoon =
    (net : NetLists) → HasEndsInRange net → IsLive net → (x : ℕ → ℕ → Date) → IsLeastUnder net inputs_at_zero x → (r : EndlessRow) → IsEndlessRow net r → KeepsPace net r
    → (most : ℕ) → 1 ≤ most → All (λ p. p.tokens ≤ most) net.places → NoneLateTo x r (paced_bound net most r) → NoneLate x r

-- where there is no row, inputs at 0 meet the due dates
abbrev pub NoRowsAreMet : Type 0
NoRowsAreMet = (net : NetLists) → HasEndsInRange net → IsLive net → InputsMeet net (due_on []) inputs_at_zero
