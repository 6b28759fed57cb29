-- What the text of a firing that comes late of due dates without end shows.
use Rattle.std.specs.Prelude.{ℕ, ◌≡◌, List, [], ◌∷◌, All}
use Rattle.dioid.specs.declared.dates.Date.{Date}
use Rattle.teg_net.specs.Nets.{NetLists}
use Rattle.teg_net.specs.Circuits.{IsLive}
use Rattle.teg_model.specs.Datings.{IsLeastUnder}
use Rattle.teg_text.specs.Lines.{written}
use Rattle.late_lines.specs.LateLines.{late_line}
use Rattle.due_laws.specs.MeetingDueDates.{inputs_at_zero}
use Rattle.endless_due.specs.declared.row.EndlessRow.{EndlessRow}
use Rattle.endless_due.specs.EndlessRows.{IsEndlessOf}
use Rattle.forever_laws.specs.Late.{IsFirstLateRow, IsLeastLate, NoneLate}

-- in the least dating with all inputs at 0 none of the rows before has a late number, and k is the least of this row
abbrev pub IsLateAfter : NetLists → (before : List EndlessRow) → EndlessRow → (k due least : ℕ) → Type 0
IsLateAfter net before row k due least = (x : ℕ → ℕ → Date) × IsLeastUnder net inputs_at_zero x × All (NoneLate x) before × IsLeastLate x row k due least

-- the net is live and the rows are due dates of it; the whole text tells a firing, when it is due and when it comes: with all inputs at 0
-- it is the least late number of the first row that has one
pub record IsShownEndlessLate (net : NetLists) (rows : List EndlessRow) (text : List ℕ) : Type 0 where
  pub live : IsLive net
  pub due : IsEndlessOf net rows
  pub dating : ℕ → ℕ → Date
  pub is_least : IsLeastUnder net inputs_at_zero dating
  pub row : EndlessRow
  pub number : ℕ
  pub due_date : ℕ
  pub least : ℕ
  pub first : IsFirstLateRow dating rows row number due_date least
  pub told : text ≡ written (late_line net row.transition number due_date least ∷ [])
