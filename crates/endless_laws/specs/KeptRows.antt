-- Endless due dates that a dating keeps: for every firing, and in a window of the settled form that stands for it.
use Rattle.std.specs.Prelude.{ℕ, pos, ◌+◌, ◌*◌, ◌*ℤ◌, ◌≤◌, ◌≤ℤ◌, ◌≡◌, ◌↔◌, List, Some, length, All}
use Rattle.dioid.specs.declared.dates.Date.{Date}
use Rattle.dioid.specs.declared.dates.Date.TheVariants.{At}
use Rattle.dioid.specs.Dates.{IsAtMostDate}
use Rattle.teg_net.specs.Nets.{NetLists}
use Rattle.teg_model.specs.Datings.{IsFeasibleUnder}
use Rattle.settled_laws.specs.SettledForms.{SettledForm, StandsFor, step_of_form}
use Rattle.due_laws.specs.MeetingDueDates.{KeepsDues}
use Rattle.endless_due.specs.declared.row.EndlessRow.{EndlessRow}
use Rattle.endless_due.specs.EndlessRows.{row_due, due_on, IsEndlessRow, IsEndlessOf}

-- firing k of the row's transition does not come after its due date
abbrev pub KeepsRowAt : (ℕ → ℕ → Date) → EndlessRow → ℕ → Type 0
KeepsRowAt x r k = (d : ℕ) → row_due r k ≡ Some d → IsAtMostDate (x r.transition.index k) (At (pos d))

-- no firing up to `last` does
abbrev pub KeepsRowTo : (ℕ → ℕ → Date) → EndlessRow → ℕ → Type 0
KeepsRowTo x r last = (k : ℕ) → 1 ≤ k → k ≤ last → KeepsRowAt x r k

-- no firing does
abbrev pub KeepsRow : (ℕ → ℕ → Date) → EndlessRow → Type 0
KeepsRow x r = (k : ℕ) → 1 ≤ k → KeepsRowAt x r k

-- past number `past` the form goes on by its steps, and the row by its gap; a turn takes so many periods of the form and as many
-- firings as so many rounds of the row
pub record IsCommonTurn (f : SettledForm) (r : EndlessRow) (past turn periods rounds : ℕ) : Type 0 where
  pub some : 1 ≤ turn
  pub past_form : f.after ≤ past
  pub past_list : length r.dates ≤ past + r.every
  pub by_form : turn ≡ periods * f.period
  pub by_list : turn ≡ rounds * r.every

-- in a turn the dates of the row's transition rise by no more than its due dates
abbrev pub RisesNoFaster : SettledForm → EndlessRow → (periods rounds : ℕ) → Type 0
RisesNoFaster f r periods rounds = (pos periods *ℤ step_of_form f r.transition.index) ≤ℤ pos (rounds * r.gap)

-- a dating keeps a row for every firing just where it does up to a turn past both starts, and rises no faster than the row
abbrev pub WindowsTellKept : Type 0
WindowsTellKept = (net : NetLists) (u x : ℕ → ℕ → Date) → IsFeasibleUnder net u x → (f : SettledForm) → StandsFor (length net.transitions) f x
    → (r : EndlessRow) → IsEndlessRow net r → (past turn periods rounds : ℕ) → IsCommonTurn f r past turn periods rounds
    → KeepsRow x r ↔ (KeepsRowTo x r (past + turn) × RisesNoFaster f r periods rounds)

-- a dating keeps the due dates of rows just where it keeps each row
abbrev pub RowsTellKept : Type 0
RowsTellKept = (net : NetLists) (rows : List EndlessRow) → IsEndlessOf net rows → (x : ℕ → ℕ → Date) → KeepsDues net (due_on rows) x ↔ All (KeepsRow x) rows
