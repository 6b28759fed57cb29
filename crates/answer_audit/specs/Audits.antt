-- What is found of one answer of each kind, by the files that its question names, and whole calls.
use Rattle.std.specs.Prelude.{ℕ, ◌≡◌, List, Option, Some, None, String}
use Rattle.std.specs.Global.{Global}
use Rattle.csv_records.specs.Records.{most_file_bytes}
use Rattle.teg_net.specs.Nets.{NetLists}
use Rattle.teg_outside.specs.Shelves.{ShelfState}
use Rattle.teg_outside.specs.Sinks.{SinkState}
use Rattle.audit_calls.specs.AuditCalls.{CallsAudit}
use Rattle.audit_calls.specs.AnswerAudits.{FindsByFile, FindsNoChecker}
use Rattle.audit_calls.specs.declared.finding.Finding.{Finding}
use Rattle.audit_calls.specs.declared.kinds.Kind.{Kind}
use Rattle.audit_calls.specs.declared.kinds.Kind.TheVariants.{OfNet, OfSearch, Plan, Releases, LateRow, LateOrder, OneDate, Kept, Recovered}
use Rattle.audit_calls.specs.declared.kinds.Searched.{Searched}
use Rattle.audit_calls.specs.declared.question.Beside.{Beside}
use Rattle.audit_calls.specs.declared.question.Beside.TheVariants.{File, Timetable}
use Rattle.audit_calls.specs.declared.status.AuditStatus.{AuditStatus}
use Rattle.pace_audit.specs.PaceAudits.{FindsAlone, FindsDate}
use Rattle.pace_audit.specs.PaceFindings.{IsFound}
use Rattle.answer_audit.specs.AnswerFindings.{IsFoundSearched, IsPlanFound, IsShownLateFor, IsShownLateOrderFor, IsShownReleasesFor, IsShownKeptFor, IsShownRecoveredFor}
use Rattle.answer_audit.specs.RowFiles.{SaysDue, SaysEndlessDue, SaysTable}

-- no file is read, and this is found on the net alone, of what a search goes through
abbrev pub FindsSearched : NetLists → Searched → List ℕ → ShelfState → ShelfState → Option Finding → Type 0
FindsSearched net kind text old new None = ⊥
FindsSearched net kind text old new (Some finding) = (new ≡ old) × IsFoundSearched net kind text finding

-- what is found of a table of latest dates, by the due file
abbrev pub FindsPlan : NetLists → Beside → List ℕ → ShelfState → ShelfState → Option Finding → Type 0
FindsPlan net (File name) text old new found = FindsByFile (SaysDue net) (IsPlanFound net text) name most_file_bytes old new found
FindsPlan net beside text old new found = FindsNoChecker old new found

-- what is found of releases without end, by the due file
abbrev pub FindsReleases : NetLists → Beside → List ℕ → ShelfState → ShelfState → Option Finding → Type 0
FindsReleases net (File name) text old new found =
    FindsByFile (SaysEndlessDue net) (λ due. IsFound net (IsShownReleasesFor net text due)) name most_file_bytes old new found
FindsReleases net beside text old new found = FindsNoChecker old new found

-- what is found of a row that comes late, by the due file
abbrev pub FindsLate : NetLists → Beside → List ℕ → ShelfState → ShelfState → Option Finding → Type 0
FindsLate net (File name) text old new found = FindsByFile (SaysDue net) (λ due. IsFound net (IsShownLateFor net text due)) name most_file_bytes old new found
FindsLate net beside text old new found = FindsNoChecker old new found

-- what is found of a firing that comes late of due dates without end, by the due file
abbrev pub FindsLateOrder : NetLists → Beside → List ℕ → ShelfState → ShelfState → Option Finding → Type 0
FindsLateOrder net (File name) text old new found =
    FindsByFile (SaysEndlessDue net) (λ due. IsFound net (IsShownLateOrderFor net text due)) name most_file_bytes old new found
FindsLateOrder net beside text old new found = FindsNoChecker old new found

-- what is found of delays that are kept, by the timetable
abbrev pub FindsKept : NetLists → Beside → List ℕ → ShelfState → ShelfState → Option Finding → Type 0
FindsKept net (Timetable period name) text old new found =
    FindsByFile (SaysTable net) (λ table. IsFound net (IsShownKeptFor net period text table)) name most_file_bytes old new found
FindsKept net beside text old new found = FindsNoChecker old new found

-- what is found of delays that die out, by the timetable
abbrev pub FindsRecovered : NetLists → Beside → List ℕ → ShelfState → ShelfState → Option Finding → Type 0
FindsRecovered net (Timetable period name) text old new found =
    FindsByFile (SaysTable net) (λ table. IsFound net (IsShownRecoveredFor net period text table)) name most_file_bytes old new found
FindsRecovered net beside text old new found = FindsNoChecker old new found

-- what is found of an answer of this kind
abbrev pub FindsOf : NetLists → Beside → Option Kind → List ℕ → ShelfState → ShelfState → Option Finding → Type 0
FindsOf net beside None text old new found = FindsNoChecker old new found
FindsOf net beside (Some (OfNet kind)) text old new found = FindsAlone net kind text old new found
FindsOf net beside (Some (OfSearch kind)) text old new found = FindsSearched net kind text old new found
FindsOf net beside (Some Plan) text old new found = FindsPlan net beside text old new found
FindsOf net beside (Some Releases) text old new found = FindsReleases net beside text old new found
FindsOf net beside (Some LateRow) text old new found = FindsLate net beside text old new found
FindsOf net beside (Some LateOrder) text old new found = FindsLateOrder net beside text old new found
FindsOf net beside (Some OneDate) text old new found = FindsDate net beside text old new found
FindsOf net beside (Some Kept) text old new found = FindsKept net beside text old new found
FindsOf net beside (Some Recovered) text old new found = FindsRecovered net beside text old new found

-- the call of these words, where this is found of each answer
abbrev pub AuditsWords : List (String Global) → ShelfState → ShelfState → SinkState → SinkState → AuditStatus → Type 0
AuditsWords words shelf shelf' sink sink' status = CallsAudit FindsOf words shelf shelf' sink sink' status
