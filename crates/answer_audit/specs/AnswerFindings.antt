-- What is found of an answer, and when it is so.
use Rattle.std.specs.Prelude.{ℕ, ◌≡◌, ⊤, List}
use Rattle.teg_net.specs.Nets.{NetLists}
use Rattle.teg_net.specs.Ratios.{Fraction}
use Rattle.teg_net.specs.declared.entries.PlaceId.{PlaceId}
use Rattle.teg_due.specs.declared.rows.Due.{Due}
use Rattle.late_lines.specs.declared.late.LateFiring.{LateFiring}
use Rattle.delay_laws.specs.declared.table.Timetable.{Timetable}
use Rattle.pace_audit.specs.PaceFindings.{IsFound}
use Rattle.round_check.specs.OtherRounds.{TellsOther}
use Rattle.round_check.specs.ShownRounds.{IsShownRounds}
use Rattle.round_check.specs.declared.refuted.OtherRound.{OtherRound}
use Rattle.dating_check.specs.FirstLate.{IsShownFirstLate}
use Rattle.settled_check.specs.ShownForms.{IsShownSettled}
use Rattle.dating_check.specs.ShownTables.{IsShownTable}
use Rattle.dating_check.specs.TableTexts.{IsFalseTable, IsRightIfTable}
use Rattle.dating_check.specs.declared.table_faults.TableFault.{TableFault}
use Rattle.dating_check.specs.declared.table_faults.TableFault.TheVariants.{OtherNumbers, Line, Late}
use Rattle.settled_check.specs.declared.settled.ShownSettled.{ShownSettled}
use Rattle.delay_check.specs.ShownDelays.{IsShownKept, IsShownRecovered}
use Rattle.forever_check.specs.ShownReleases.{IsShownForever}
use Rattle.forever_check.specs.ShownLate.{IsShownEndlessLate}
use Rattle.bound_check.specs.ShownBounds.{IsShownBound}
use Rattle.bound_check.specs.declared.bound.ShownBound.{ShownBound}
use Rattle.answer_audit.specs.declared.files.EndlessDue.{EndlessDue}
use Rattle.audit_calls.specs.declared.finding.Finding.{Finding}
use Rattle.audit_calls.specs.declared.finding.Finding.TheVariants.{Shown, Refuted, WrongLine, NotShown, NoChecker}
use Rattle.audit_calls.specs.declared.kinds.Searched.{Searched}
use Rattle.audit_calls.specs.declared.kinds.Searched.TheVariants.{Rounds, Settled, Bound}

-- the text is an answer of this kind that is shown on the net alone
abbrev pub IsShownSearched : NetLists → Searched → List ℕ → Type 0
IsShownSearched net Rounds text = (ratio : Fraction) × IsShownRounds net text ratio
IsShownSearched net Settled text = (shown : ShownSettled) × IsShownSettled net text shown
IsShownSearched net Bound text = (shown : ShownBound) × IsShownBound net text shown

-- what is found of cycle times with the rounds: they are shown only where they are what the net says, and a line of them is wrong only
-- where the net is live, the text is whole one of cycle times and rounds, and with this line the first round begins that is another
abbrev pub IsRoundsFound : NetLists → List ℕ → Finding → Type 0
IsRoundsFound net text Shown = IsShownSearched net Rounds text
IsRoundsFound net text Refuted = ⊥
IsRoundsFound net text (WrongLine line) = (other : OtherRound) × (line ≡ other.line) × TellsOther net text other × (IsShownSearched net Rounds text → ⊥)
IsRoundsFound net text NotShown = ⊤
IsRoundsFound net text NoChecker = ⊥

-- what is found of an answer of this kind, on the net alone, of what a search goes through
abbrev pub IsFoundSearched : NetLists → Searched → List ℕ → Finding → Type 0
IsFoundSearched net Rounds text finding = IsRoundsFound net text finding
IsFoundSearched net kind text finding = IsFound net (IsShownSearched net kind text) finding

-- the text is the table of latest dates for these due dates
abbrev pub IsShownPlanFor : NetLists → List ℕ → Due → Type 0
IsShownPlanFor net text due = (numbers : ℕ) × IsShownTable net due.rows.items text numbers

-- the text tells the latest inputs for these due dates without end
abbrev pub IsShownReleasesFor : NetLists → List ℕ → EndlessDue → Type 0
IsShownReleasesFor net text due = IsShownForever net due.rows.items text

-- the text tells the first firing that comes late of these due dates without end
abbrev pub IsShownLateOrderFor : NetLists → List ℕ → EndlessDue → Type 0
IsShownLateOrderFor net text due = IsShownEndlessLate net due.rows.items text

-- the text tells the first of these due dates that comes late
abbrev pub IsShownLateFor : NetLists → List ℕ → Due → Type 0
IsShownLateFor net text due = (late : LateFiring) × IsShownFirstLate net due.rows.items text late

-- the text tells the delays that are left of this timetable, which departs again every `period`, and a circuit that keeps some
abbrev pub IsShownKeptFor : NetLists → ℕ → List ℕ → Timetable → Type 0
IsShownKeptFor net period text table = (circuit : List PlaceId) × IsShownKept net period table text circuit

-- the text tells the delays that are left of this timetable, which departs again every `period`, and the least number after which there
-- is none
abbrev pub IsShownRecoveredFor : NetLists → ℕ → List ℕ → Timetable → Type 0
IsShownRecoveredFor net period text table = (last : ℕ) × IsShownRecovered net period table text last

-- the line by which this is told to be false in a table, counted from 0
abbrev pub IsFaultLine : TableFault → ℕ → Type 0
IsFaultLine OtherNumbers line = line ≡ 0
IsFaultLine (Line transition number at) line = line ≡ at
IsFaultLine Late line = ⊥

-- what is found of a table of latest dates for these due dates: it is shown only where it is that of a plan; a line of it is wrong only
-- where this is the first that does not tell the latest date of its firing, or the first of all and the table goes up to another number
-- than the greatest that is due; it is refuted only where each line is right and there is no plan; and none of these is found only where
-- the net is not live, the text is no table, or each line is right and there is a plan
abbrev pub IsPlanFound : NetLists → List ℕ → Due → Finding → Type 0
IsPlanFound net text due Shown = IsShownPlanFor net text due
IsPlanFound net text due Refuted = IsFalseTable net due.rows.items text Late × (IsShownPlanFor net text due → ⊥)
IsPlanFound net text due (WrongLine line) =
    (fault : TableFault) × IsFaultLine fault line × IsFalseTable net due.rows.items text fault × (IsShownPlanFor net text due → ⊥)
IsPlanFound net text due NotShown = IsRightIfTable net due.rows.items text
IsPlanFound net text due NoChecker = ⊥
