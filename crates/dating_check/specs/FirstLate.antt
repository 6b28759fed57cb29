-- What the text of due dates that no inputs can meet shows.
use Rattle.std.specs.Prelude.{ℕ, pos, ◌<◌, ◌≤◌, ◌≡◌, List, All, length, slice_index_or, take}
use Rattle.teg_model.specs.dioid.declared.dates.Date.{Date}
use Rattle.teg_model.specs.dioid.declared.dates.Date.TheVariants.{At}
use Rattle.teg_model.specs.dioid.Dates.{IsAtMostDate}
use Rattle.teg_model.specs.teg_net.Nets.{NetLists}
use Rattle.teg_model.specs.teg_net.Circuits.{IsLive}
use Rattle.teg_model.specs.Datings.{IsLeastDating, IsLeastUnder}
use Rattle.dating_certificates.specs.CheckedRows.{date_in_rows}
use Rattle.due_laws.specs.MeetingDueDates.{inputs_at_zero}
use Rattle.teg_due.specs.declared.rows.DueRow.{DueRow}
use Rattle.late_lines.specs.declared.late.LateFiring.{LateFiring}
use Rattle.dating_check.specs.ShownWalks.{IsShownLate}

-- the dating comes to the row's firing at its due date or before
abbrev pub KeepsRow : (ℕ → ℕ → Date) → DueRow → Type 0
KeepsRow x r = IsAtMostDate (x r.transition.index r.number) (At (pos r.date))

-- the row at i is in the list, and the dating keeps those before it
pub record IsFirstUnkept (x : ℕ → ℕ → Date) (rows : List DueRow) (i : ℕ) : Type 0 where
  pub within : i < length rows
  pub kept : (j : ℕ) (q : DueRow) → j < i → KeepsRow x (slice_index_or rows j q)

-- the row is that of this firing and this due date
pub record IsRowOfLate (late : LateFiring) (r : DueRow) : Type 0 where
  pub transition : r.transition ≡ late.transition
  pub number : r.number ≡ late.number
  pub date : r.date ≡ late.due

-- the first row that the dating does not keep, with its firing, its due date and the date of the dating there
pub record IsFirstLateBy (x : ℕ → ℕ → Date) (rows : List DueRow) (firing : LateFiring) : Type 0 where
  pub before : ℕ
  pub within : before < length rows
  pub kept : All (KeepsRow x) (take before rows)
  pub row : (d : DueRow) → IsRowOfLate firing (slice_index_or rows before d)
  pub least : x firing.transition.index firing.number ≡ At (pos firing.least)
  pub late : firing.due < firing.least

-- up to this number the dates are those of the least dating
abbrev pub AreLeastUpTo : NetLists → List Date → ℕ → Type 0
AreLeastUpTo net dates numbers = (x : ℕ → ℕ → Date) → IsLeastDating net x
    → (t k : ℕ) → t < length net.transitions → 1 ≤ k → k ≤ numbers → date_in_rows (length net.transitions) dates t k ≡ x t k

-- the firing is that of the first row that the least dating with all inputs at 0 does not keep, with its date there
abbrev pub IsFirstLate : NetLists → List DueRow → LateFiring → Type 0
IsFirstLate net rows late = (x : ℕ → ℕ → Date) → IsLeastUnder net inputs_at_zero x → IsFirstLateBy x rows late

-- the net is live; the whole text tells the first row that comes late, its least date and a walk that shows that it comes no earlier
pub record IsShownFirstLate (net : NetLists) (rows : List DueRow) (text : List ℕ) (late : LateFiring) : Type 0 where
  pub live : IsLive net
  pub shown : IsShownLate net text late
  pub first : IsFirstLate net rows late
