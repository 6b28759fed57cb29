-- What is said of a recorded run of a live net.
use Rattle.std.specs.Prelude.{All, ℕ, Bool, true, false, ◌<◌, ◌≡◌, ◌⊎◌, List, length, Option, Some, None, Result, Ok, Err, ◌∷◌, ⊤, []}
use Rattle.teg_due.specs.declared.rows.LogRefusal.{LogRefusal}
use Rattle.teg_due.specs.declared.rows.LogRefusal.TheVariants.{OutOfMemory as NoRoom}
use Rattle.teg_due.specs.declared.rows.LogRow.{LogRow}
use Rattle.teg_due.specs.Logs.{log_of}
use Rattle.teg_net.specs.Nets.{NetLists}
use Rattle.teg_outside.specs.declared.monitor.Firing.{Firing}
use Rattle.teg_outside.specs.Monitors.{IsOneLine}
use Rattle.teg_replay.specs.declared.refusal.FireRefusal.{FireRefusal}
use Rattle.teg_replay.specs.declared.refusal.FireRefusal.TheVariants.{Illegal, BackInTime, BeforeRelease, OutOfMemory}
use Rattle.teg_replay.specs.declared.replayed.Replayed.{Replayed}
use Rattle.teg_replay.specs.declared.replayed.Refused.{Refused}
use Rattle.teg_replay.specs.Replays.{AreFiringsOf, IsReplayOf, WereShown}
use Rattle.teg_report.specs.declared.answer.Failure.{Failure}
use Rattle.teg_report.specs.declared.answer.Failure.TheVariants.{Illegal as ToldIllegal, BackInTime as ToldBackInTime, BeforeRelease as ToldBeforeRelease}
use Rattle.teg_outcome.specs.declared.outcome.Verdict.{Verdict}
use Rattle.teg_outcome.specs.declared.outcome.Verdict.TheVariants.{Done as VerdictDone, Log as VerdictLog}
use Rattle.teg_outcome.specs.CommandOutcomes.{TellsWhy}
use Rattle.teg_report.specs.FileRows.{IsLogKept, log_line, refused_lines, replayed_lines}
use Rattle.teg_report.specs.teg_text.Lines.{written}
use Rattle.teg_report.specs.teg_lines.Widths.{IsWord32, IsWord64}

-- the first fault of the log is said
abbrev pub SaysBadLog : NetLists → List ℕ → Verdict → List ℕ → Type 0
SaysBadLog net bytes verdict text = (refusal : LogRefusal) × (log_of net bytes ≡ Err refusal) × TellsWhy (λ r. log_line r ∷ []) IsLogKept NoRoom VerdictLog refusal verdict text

-- why a firing is refused, as it is told; want of memory refuses none
abbrev pub IsToldAs : FireRefusal → Failure → Type 0
IsToldAs (Illegal place ready) failure = failure ≡ ToldIllegal place
IsToldAs (BackInTime last) failure = failure ≡ ToldBackInTime
IsToldAs (BeforeRelease release) failure = failure ≡ ToldBeforeRelease
IsToldAs OutOfMemory failure = ⊥

-- a refusal that can be told: a place that it names is one of the net, and it is not want of memory
abbrev pub CanTellRefusal : NetLists → FireRefusal → Type 0
CanTellRefusal net (Illegal place ready) = place.index < length net.places
CanTellRefusal net (BackInTime last) = ⊤
CanTellRefusal net (BeforeRelease release) = ⊤
CanTellRefusal net OutOfMemory = ⊥

-- how many firings were accepted is said where none was refused, and otherwise the first refused row and why; then a line of each monitor
abbrev pub SaysEnd : NetLists → Option Refused → ℕ → List (List ℕ) → Verdict → List ℕ → Type 0
SaysEnd net None accepted lines verdict text = (verdict ≡ VerdictDone) × IsWord64 accepted × All IsOneLine lines × (text ≡ written (replayed_lines accepted lines))
SaysEnd net (Some refused) accepted lines verdict text =
    (verdict ≡ VerdictLog)
    × ((failure : Failure) × IsToldAs refused.why failure × IsWord32 refused.row × All IsOneLine lines × (text ≡ written (refused_lines net refused.row failure lines)))

-- of the rows of a log is said how they were replayed, with the lines of the monitors after just the accepted firings
abbrev pub SaysRun : (List Firing → List (List ℕ)) → NetLists → List LogRow → Verdict → List ℕ → Type 0
SaysRun lines net rows verdict text =
    (firings : List Firing) × (replayed : Replayed) × IsReplayOf net rows firings replayed
    × SaysEnd net replayed.refused replayed.accepted (lines firings) verdict text

-- of a live net and a log its first fault is said, or how its rows were replayed
abbrev pub SaysReplay : (List Firing → List (List ℕ)) → NetLists → List ℕ → Verdict → List ℕ → Type 0
SaysReplay lines net bytes verdict text =
    SaysBadLog net bytes verdict text ⊎ ((rows : List LogRow) × (log_of net bytes ≡ Ok rows) × SaysRun lines net rows verdict text)

-- the monitors were shown just the accepted firings of the rows, in order, each once; where nothing is told, those of some first rows
abbrev pub ShowsRun : NetLists → List LogRow → (before now : List Firing → List (List ℕ)) → (is_told : Bool) → Type 0
ShowsRun net rows before now true =
    (firings : List Firing) × (replayed : Replayed) × IsReplayOf net rows firings replayed × WereShown before now firings
ShowsRun net rows before now false = (firings : List Firing) × AreFiringsOf net rows firings × WereShown before now firings

-- the monitors were shown nothing
abbrev pub ShowsNothing : (before now : List Firing → List (List ℕ)) → Type 0
ShowsNothing before now = WereShown before now []

-- what the monitors were shown of the rows of a log that was read; of a faulty log they were shown nothing
abbrev pub ShowsLog : Result (List LogRow) LogRefusal → NetLists → (before now : List Firing → List (List ℕ)) → (is_told : Bool) → Type 0
ShowsLog (Ok rows) net before now is_told = ShowsRun net rows before now is_told
ShowsLog (Err refusal) net before now is_told = ShowsNothing before now

-- what the monitors were shown of a live net and a log
abbrev pub ShowsReplay : NetLists → List ℕ → (before now : List Firing → List (List ℕ)) → (is_told : Bool) → Type 0
ShowsReplay net bytes = ShowsLog (log_of net bytes) net
