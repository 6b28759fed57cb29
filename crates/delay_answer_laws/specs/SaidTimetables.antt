-- What the checkers of printed timetables show is what the command says.
use Rattle.std.specs.Prelude.{ℕ, ◌≡◌, ◌⊎◌, List, Option, Ok}
use Rattle.delay_check.specs.ShownDelays.{IsShownKept, IsShownRecovered}
use Rattle.delay_laws.specs.declared.table.Timetable.{Timetable}
use Rattle.delay_laws.specs.Delays.{IsFormOfDelays}
use Rattle.settled_laws.specs.SettledForms.{SettledForm, settled_length}
use Rattle.release_nets.specs.PlannedNets.{IsPlannedNet}
use Rattle.teg_date_commands.specs.Timetable.{SaysSpread, SaysTimetable}
use Rattle.teg_net.specs.declared.entries.PlaceId.{PlaceId}
use Rattle.teg_net.specs.Nets.{NetLists}
use Rattle.teg_outcome.specs.declared.outcome.Verdict.TheVariants.{Done as VerdictDone}
use Rattle.teg_timetable.specs.DelayAnswers.{IsLengthWithinLimit}
use Rattle.timetable_files.specs.TimetableFiles.{lists_of_table, timetable_of}

-- the settled form of the delays keeps the limit, where there is one
abbrev pub KeepsLimit : NetLists → ℕ → Timetable → Option ℕ → Type 0
KeepsLimit net period table limit = (form : SettledForm) → IsFormOfDelays net period table form → IsLengthWithinLimit limit (settled_length form)

-- of each file of the timetable the command says this text, with no limit or with one that the settled form of the delays keeps
abbrev pub IsSaidOfTimetable : NetLists → ℕ → Timetable → List ℕ → Type 0
IsSaidOfTimetable net period table text = (bytes : List ℕ) → timetable_of net bytes ≡ Ok (lists_of_table table)
    → (limit : Option ℕ) → KeepsLimit net period table limit → SaysTimetable period limit net bytes VerdictDone text

-- so it does of each text that is shown to tell delays that die out
abbrev pub ShownRecoveredIsSaid : Type 0
ShownRecoveredIsSaid = (net : NetLists) (period : ℕ) (table : Timetable) (text : List ℕ) (last : ℕ)
    → IsShownRecovered net period table text last → IsSaidOfTimetable net period table text

-- and of each that is shown to tell delays that a circuit keeps
abbrev pub ShownKeptIsSaid : Type 0
ShownKeptIsSaid = (net : NetLists) (period : ℕ) (table : Timetable) (text : List ℕ) (circuit : List PlaceId)
    → IsShownKept net period table text circuit → IsSaidOfTimetable net period table text

-- a text is shown to tell delays that a circuit keeps, or that die out
abbrev pub IsShownTimetable : NetLists → ℕ → Timetable → List ℕ → Type 0
IsShownTimetable net period table text =
    ((circuit : List PlaceId) × IsShownKept net period table text circuit) ⊎ ((last : ℕ) × IsShownRecovered net period table text last)

-- where delays can be followed, each text that is said of them is one that is shown
abbrev pub SaidTimetablesAreShown : Type 0
SaidTimetablesAreShown = (net : NetLists) (period : ℕ) (table : Timetable) (text : List ℕ) (limit : Option ℕ) → IsPlannedNet net period table
    → SaysSpread period limit net table VerdictDone text → IsShownTimetable net period table text
