-- What a line of latest dates shows, and what a walk shows that comes late.
use Rattle.std.specs.Prelude.{ℕ, pos, ◌<◌, ◌≡◌, ◌++◌, ◌∷◌, [], List, Some, Option}
use Rattle.std.specs.Fmt.{decimal}
use Rattle.teg_model.specs.dioid.declared.dates.Date.{Date}
use Rattle.teg_model.specs.dioid.declared.dates.Date.TheVariants.{At}
use Rattle.teg_model.specs.dioid.Dates.{IsAtMostDate}
use Rattle.teg_model.specs.teg_net.declared.entries.TransitionId.{TransitionId}
use Rattle.teg_model.specs.teg_net.declared.walks.Walk.{Walk}
use Rattle.teg_model.specs.teg_net.Nets.{NetLists}
use Rattle.teg_model.specs.Datings.{IsFeasibleUnder}
use Rattle.teg_text.specs.Lines.{written}
use Rattle.teg_text.specs.WordsOfNames.{name_of_transition}
use Rattle.due_laws.specs.LatestDates.{IsLateWalk}
use Rattle.due_laws.specs.MeetingDueDates.{KeepsDues, InputsMeet}
use Rattle.teg_due.specs.declared.rows.DueRow.{DueRow}
use Rattle.dating_check.specs.declared.latest.ShownLatest.{ShownLatest}
use Rattle.late_lines.specs.declared.late.LateFiring.{LateFiring}
use Rattle.late_lines.specs.LateLines.{late_by_walk, late_walk_lines}

-- how the line of a latest date begins: a word, the transition, the number and the date, each before a blank
abbrev pub latest_beginning : NetLists → List ℕ → TransitionId → ℕ → ℕ → List ℕ
latest_beginning net word t k date = word ++ 32 ∷ name_of_transition net t ++ 32 ∷ decimal k ++ 32 ∷ decimal date ++ 32 ∷ []

-- the text begins so
abbrev pub BeginsWith : List ℕ → List ℕ → Type 0
BeginsWith text first = (rest : List ℕ) × (text ≡ first ++ rest)

-- the line tells the date of this firing behind its first word
abbrev pub TellsLatest : NetLists → List ℕ → ShownLatest → Type 0
TellsLatest net line shown = (word : List ℕ) × BeginsWith line (latest_beginning net word shown.transition shown.number shown.date)

-- no feasible dating that keeps the due date of the row, and whatever else is due, has the firing after the date
abbrev pub BoundsByRow : NetLists → DueRow → ℕ → ℕ → ℕ → Type 0
BoundsByRow net row t k date = (due : ℕ → ℕ → Option ℕ) → due row.transition.index row.number ≡ Some row.date
    → (u x : ℕ → ℕ → Date) → IsFeasibleUnder net u x → KeepsDues net due x → IsAtMostDate (x t k) (At (pos date))

-- the line tells the date, and the firing may come no later
abbrev pub IsShownLatest : NetLists → DueRow → List ℕ → ShownLatest → Type 0
IsShownLatest net row line shown = TellsLatest net line shown × BoundsByRow net row shown.transition.index shown.number shown.date

-- no inputs meet what is due, where the firing is due by this date
abbrev pub MeetsNoInputs : NetLists → ℕ → ℕ → ℕ → Type 0
MeetsNoInputs net t k date = (due : ℕ → ℕ → Option ℕ) → due t k ≡ Some date → (v : ℕ → ℕ → Date) → InputsMeet net due v → ⊥

-- no feasible dating, under any inputs, has the firing before this date
abbrev pub ComesNoEarlier : NetLists → ℕ → ℕ → ℕ → Type 0
ComesNoEarlier net t k date = (u x : ℕ → ℕ → Date) → IsFeasibleUnder net u x → IsAtMostDate (At (pos date)) (x t k)

-- the whole text tells the firing with a walk that comes to it at the date that is told as least
abbrev pub TellsLate : NetLists → List ℕ → LateFiring → Type 0
TellsLate net text late =
    (walk : Walk) × IsLateWalk net late.transition.index late.number late.start late.least walk × (text ≡ written (late_walk_lines net (late_by_walk late walk)))

-- the whole text tells the firing, which comes no earlier than at the date that is told as least, whatever the inputs do; that is
-- after the date at which it is told to be due, and where it is due then no inputs meet what is due
pub record IsShownLate (net : NetLists) (text : List ℕ) (shown : LateFiring) : Type 0 where
  pub told : TellsLate net text shown
  pub no_earlier : ComesNoEarlier net shown.transition.index shown.number shown.least
  pub late : shown.due < shown.least
  pub refused : MeetsNoInputs net shown.transition.index shown.number shown.due
