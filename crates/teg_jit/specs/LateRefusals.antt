-- What a refusal says of the net and the due list.
use Rattle.std.specs.Prelude.{ℕ, pos, ◌<◌, ◌≡◌, List, All, take, slice_get, IsSomeAnd, ⊤}
use Rattle.date_rows.specs.dioid.declared.dates.Date.{Date}
use Rattle.date_rows.specs.dioid.declared.dates.Date.TheVariants.{At}
use Rattle.date_rows.specs.dioid.Dates.{IsAtMostDate}
use Rattle.teg_net.specs.declared.entries.TransitionId.{TransitionId}
use Rattle.teg_net.specs.Nets.{NetLists}
use Rattle.date_rows.specs.teg_model.Datings.{IsLeastUnder}
use Rattle.due_laws.specs.MeetingDueDates.{inputs_at_zero}
use Rattle.due_laws.specs.LatestDates.{IsLateWalk}
use Rattle.teg_due.specs.declared.rows.DueRow.{DueRow}
use Rattle.teg_jit.specs.declared.answers.JitRefusal.{JitRefusal}
use Rattle.teg_jit.specs.declared.answers.JitRefusal.TheVariants.{Late, OutOfMemory}

-- the dating comes to the row's firing at the due date or before
abbrev pub KeepsRow : (ℕ → ℕ → Date) → DueRow → Type 0
KeepsRow x r = IsAtMostDate (x r.transition.index r.number) (At (pos r.date))

-- the first row that the dating x does not keep, with its firing, its due date and the date of x there
pub record IsFirstLateDue (x : ℕ → ℕ → Date) (rows : List DueRow) (t : TransitionId) (number due least : ℕ) : Type 0 where
  pub before : ℕ
  pub kept : All (KeepsRow x) (take before rows)
  pub names : IsSomeAnd (slice_get rows before) (λ r. (r.transition ≡ t) × (r.number ≡ number) × (r.date ≡ due))
  pub is_least : x t.index number ≡ At (pos least)
  pub late : due < least

-- the first row that the least dating with all inputs at 0 exceeds, and a walk that shows it
abbrev pub LateIsRight : NetLists → List DueRow → JitRefusal → Type 0
LateIsRight net rows (Late t number due least start walk) =
    ((x : ℕ → ℕ → Date) × IsLeastUnder net inputs_at_zero x × IsFirstLateDue x rows t number due least) × IsLateWalk net t.index number start least walk
LateIsRight net rows OutOfMemory = ⊤
