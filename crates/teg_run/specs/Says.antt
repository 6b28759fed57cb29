-- What each command says, by what its reads gave.
use Rattle.std.specs.Prelude.{ℕ, ◌≡◌, true, false, List, [], ◌∷◌, Option, Some, None, Result}
use Rattle.teg_net.specs.Nets.{NetLists}
use Rattle.teg_outside.specs.declared.shelf.ShelfFault.{ShelfFault}
use Rattle.teg_outside.specs.declared.monitor.Firing.{Firing}
use Rattle.teg_files.specs.declared.status.Status.{Status}
use Rattle.teg_files.specs.declared.status.Status.TheVariants.{Words}
use Rattle.teg_outcome.specs.declared.outcome.Verdict.{Verdict}
use Rattle.teg_pace_commands.specs.Bound.{SaysBound}
use Rattle.teg_pace_commands.specs.Cycle.{SaysCycle, SaysRounds}
use Rattle.teg_net_commands.specs.Migrate.{SaysMigrate}
use Rattle.teg_net_commands.specs.Check.{SaysCheck}
use Rattle.teg_net_commands.specs.Form.{SaysForm}
use Rattle.teg_files.specs.List.{SaysList}
use Rattle.teg_commands.specs.Forever.{SaysForever}
use Rattle.teg_plan_commands.specs.Jit.{SaysJit}
use Rattle.teg_plan_commands.specs.Replay.{SaysReplay}
use Rattle.teg_date_commands.specs.CommandDates.{SaysDate, SaysDates}
use Rattle.teg_pace_commands.specs.Size.{SaysSize}
use Rattle.teg_pace_commands.specs.Slack.{SaysSlack}
use Rattle.teg_pace_commands.specs.Trial.{SaysTrial}
use Rattle.teg_date_commands.specs.Timetable.{SaysTimetable}
use Rattle.teg_date_commands.specs.Transfer.{SaysTransfer}
use Rattle.teg_net_commands.specs.Calc.{SaysCalc}
use Rattle.teg_request.specs.declared.request.NetCommand.{NetCommand}
use Rattle.teg_request.specs.declared.request.NetCommand.TheVariants.{List as ListNet, Asks}
use Rattle.teg_request.specs.declared.request.Question.{Question}
use Rattle.teg_request.specs.declared.request.Question.TheVariants.{Check as CheckNet, Form as FormNet, Cycle as CycleNet, Slack as SlackNet, Dates as DatesNet}
use Rattle.teg_request.specs.declared.request.Question.TheVariants.{Date as DateNet, Transfer as TransferNet, Migrate as MigrateNet, Size as SizeNet, Bound as BoundNet}
use Rattle.teg_request.specs.declared.request.FileCommand.{FileCommand}
use Rattle.teg_request.specs.declared.request.FileCommand.TheVariants.{Jit as JitNet, Replay as ReplayNet, Forever as ForeverNet, Timetable as TimetableNet}
use Rattle.teg_request.specs.declared.request.Request.{Request}
use Rattle.teg_request.specs.declared.request.Request.TheVariants.{OfNet, OfFiles, ValueOf, TrialOf}
use Rattle.teg_request.specs.Requests.{second_of}
use Rattle.teg_files.specs.Openings.{Opening, Accepted, Refused, OpensNet, OpensBytes}
use Rattle.teg_files.specs.Statuses.{status_of}
use Rattle.teg_files.specs.RefusalTexts.{usage}

-- what a question says of a live net
abbrev pub SaysQuestion : Question → NetLists → Verdict → List ℕ → Type 0
SaysQuestion CheckNet = SaysCheck
SaysQuestion FormNet = SaysForm
SaysQuestion (CycleNet false) = SaysCycle
SaysQuestion (CycleNet true) = SaysRounds
SaysQuestion SlackNet = SaysSlack
SaysQuestion (DatesNet limit) = SaysDates limit
SaysQuestion (DateNet word number limit) = SaysDate word number limit
SaysQuestion (TransferNet limit) = SaysTransfer limit
SaysQuestion MigrateNet = SaysMigrate
SaysQuestion (SizeNet word target) = SaysSize word target.0 target.1
SaysQuestion BoundNet = SaysBound

-- what a command says of a live net
abbrev pub SaysNet : NetCommand → NetLists → Verdict → List ℕ → Type 0
SaysNet (ListNet count) = SaysList count
SaysNet (Asks question) = SaysQuestion question

-- the call ends with this status and this text
abbrev pub Said : Status → List ℕ → Status → List ℕ → Type 0
Said status text status' text' = (status' ≡ status) × (text' ≡ text)

-- what is said of an opened file: its refusal, after which nothing is read, or what goes on with it
abbrev pub SaysOpening : {A : Type 0} → (A → List (Result (List ℕ) ShelfFault) → Status → List ℕ → Type 0) → Opening A → List (Result (List ℕ) ShelfFault) → Status → List ℕ → Type 0
SaysOpening goes_on (Refused status' text') replies status text = (replies ≡ []) × Said status' text' status text
SaysOpening goes_on (Accepted file) replies status text = goes_on file replies status text

-- what is said where the first reply opens a file
abbrev pub SaysFile : {A : Type 0} → (Result (List ℕ) ShelfFault → Opening A → Type 0)
    → (A → List (Result (List ℕ) ShelfFault) → Status → List ℕ → Type 0) → List (Result (List ℕ) ShelfFault) → Status → List ℕ → Type 0
SaysFile {A = A} opens goes_on [] status text = ⊥
SaysFile {A = A} opens goes_on (reply ∷ replies) status text =
    (opening : Opening A) × opens reply opening × SaysOpening goes_on opening replies status text

-- what is said once all files are accepted: what the command comes to
abbrev pub SaysOutcome : (Verdict → List ℕ → Type 0) → List (Result (List ℕ) ShelfFault) → Status → List ℕ → Type 0
SaysOutcome says replies status text =
    (replies ≡ []) × ((verdict : Verdict) × (status ≡ status_of verdict) × says verdict text)

-- what a command says of a live net and of the bytes of a second file, with the lines of the monitors after given firings
abbrev pub SaysFiles : FileCommand → (List Firing → List (List ℕ)) → NetLists → List ℕ → Verdict → List ℕ → Type 0
SaysFiles JitNet lines = SaysJit
SaysFiles ReplayNet lines = SaysReplay lines
SaysFiles ForeverNet lines = SaysForever
SaysFiles (TimetableNet period limit) lines = SaysTimetable period limit

-- what a command says of a live net, by the reply for the second file, with the lines of the monitors after given firings
abbrev pub SaysSecond : FileCommand → (List Firing → List (List ℕ)) → NetLists → List (Result (List ℕ) ShelfFault) → Status → List ℕ → Type 0
SaysSecond command lines net = SaysFile (OpensBytes (second_of command)) (λ bytes. SaysOutcome (SaysFiles command lines net bytes))

-- what a request says, with the lines of the monitors after given firings
abbrev pub Says : Request → (List Firing → List (List ℕ)) → List (Result (List ℕ) ShelfFault) → Status → List ℕ → Type 0
Says (OfNet command net) lines = SaysFile OpensNet (λ file. SaysOutcome (SaysNet command file))
Says (OfFiles command net second) lines = SaysFile OpensNet (SaysSecond command lines)
Says (ValueOf text) lines = SaysOutcome (SaysCalc text)
Says (TrialOf machines) lines = SaysOutcome (SaysTrial machines)

-- what the words make the call say
abbrev pub Asked : Option Request → (List Firing → List (List ℕ)) → List (Result (List ℕ) ShelfFault) → Status → List ℕ → Type 0
Asked None lines = λ replies status text. (replies ≡ []) × Said Words usage status text
Asked (Some request) lines = Says request lines
