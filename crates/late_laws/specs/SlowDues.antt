-- Due dates that rise by less than the dates of a circuit that leads to their transition: some number is late.
use Rattle.std.specs.Prelude.{ℕ, ◌*◌, ◌<◌, List, length}
use Rattle.forever_laws.specs.dioid.declared.dates.Date.{Date}
use Rattle.forever_laws.specs.teg_net.declared.entries.PlaceId.{PlaceId}
use Rattle.forever_laws.specs.teg_net.Nets.{NetLists, HasEndsInRange}
use Rattle.forever_laws.specs.teg_net.Circuits.{IsPathBetween, IsLive, time_of, tokens_of}
use Rattle.forever_laws.specs.teg_model.Datings.{IsLeastUnder}
use Rattle.forever_laws.specs.due_laws.MeetingDueDates.{inputs_at_zero}
use Rattle.endless_due.specs.declared.row.EndlessRow.{EndlessRow}
use Rattle.endless_due.specs.EndlessRows.{IsEndlessRow}
use Rattle.forever_laws.specs.Late.{IsLateAt}

-- with all inputs at 0, where a path leads from a circuit to the row's transition, and the circuit has a greater ratio of time to
-- tokens than the row of gap to firings, some number is late
abbrev pub SlowDuesAreLate : Type 0
SlowDuesAreLate =
    (net : NetLists) → HasEndsInRange net → IsLive net → (x : ℕ → ℕ → Date) → IsLeastUnder net inputs_at_zero x → (r : EndlessRow) → IsEndlessRow net r
    → (circuit way : List PlaceId) (s : ℕ) → s < length net.transitions → IsPathBetween net s circuit s → IsPathBetween net s way r.transition.index
    → r.gap * tokens_of net circuit < time_of net circuit * r.every
    → (k due least : ℕ) × IsLateAt x r k due least
