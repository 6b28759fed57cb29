-- Working definitions of the window that tells whether a form keeps a row.
use Rattle.std.specs.Prelude.{pos, ◌+◌, ◌*◌, ◌/◌, ◌<◌, ◌≡◌, Some, length}
use Rattle.dioid.specs.Dates.{IsAtMostDate, move}
use Rattle.teg_net.specs.declared.entries.InputList.{InputList}
use Rattle.teg_net.specs.Nets.{ListGoesOn}
use Rattle.settled_laws.specs.SettledForms.{SettledForm, settled_date}
use Rattle.endless_due.specs.declared.row.EndlessRow.{EndlessRow}
use Rattle.endless_due.specs.EndlessRows.{again_of_row}
use Rattle.endless_laws.specs.declared.kept_rows.Window.{Window}
use Rattle.endless_laws.specs.KeptRows.{IsCommonTurn}

-- the list has the due dates of the row
pub record IsListOf (r : EndlessRow) (l : InputList) : Type 0 where
  pub dates : l.dates ≡ r.dates
  pub again : l.again ≡ Some (again_of_row r)

-- the form has the row's transition, and the row goes on past its list
pub record IsRowOfForm (f : SettledForm) (r : EndlessRow) : Type 0 where
  pub transition : r.transition.index < length f.rows
  pub goes_on : ListGoesOn r.dates (again_of_row r)

-- past this number form and row go on by this turn, in which the due dates rise by so much
pub record IsWindowOf (f : SettledForm) (r : EndlessRow) (w : Window) : Type 0 where
  pub common : IsCommonTurn f r w.past w.turn w.periods (w.turn / r.every)
  pub rise : w.rise ≡ w.turn / r.every * r.gap

-- in the turn past the first number past the window's start the date rises by no more than the due dates
abbrev pub RisesInTurn : SettledForm → EndlessRow → Window → Type 0
RisesInTurn f r w =
    IsAtMostDate (settled_date f r.transition.index (w.past + 1 + w.turn)) (move (pos w.rise) (settled_date f r.transition.index (w.past + 1)))
