-- How an ending, and what the monitors were shown by it, follow from the reads of a request.
use Rattle.std.proofs.Common.{◌≡◌, ℕ, Bool, true, false, List, [], ◌∷◌, Option, Some, None, Result, Ok, Err, refl, sym, subst}
use Rattle.std.specs.Prelude.{is_ok}
use Rattle.teg_net.specs.declared.memory.OutOfMemory.{OutOfMemory as NoMemory}
use Rattle.teg_net.specs.Nets.{NetLists}
use Rattle.teg_outside.specs.declared.monitor.Firing.{Firing}
use Rattle.teg_outside.specs.declared.shelf.ShelfFault.{ShelfFault}
use Rattle.teg_outside.specs.declared.shelf.ShelfFault.TheVariants.{Failed, TooLarge, OutOfMemory}
use Rattle.teg_outside.specs.Shelves.{ShelfState, Reads}
use Rattle.teg_outside.specs.Sinks.{SinkState}
use Rattle.teg_report.specs.csv_records.Records.{most_file_bytes}
use Rattle.teg_outcome.specs.declared.outcome.CommandOutcome.{CommandOutcome}
use Rattle.teg_outcome.specs.declared.outcome.Verdict.{Verdict}
use Rattle.teg_outcome.specs.CommandOutcomes.{Tells, outcome_of}
use Rattle.teg_plan_commands.proofs.Replayed.{nothing_shown, replay_unshown}
use Rattle.teg_report.specs.declared.answer.Which.{Which}
use Rattle.teg_report.specs.declared.answer.Which.TheVariants.{Net as NetFile}
use Rattle.teg_request.specs.declared.request.FileCommand.{FileCommand}
use Rattle.teg_request.specs.declared.request.FileCommand.TheVariants.{Jit as JitNet, Replay as ReplayNet, Forever as ForeverNet, Timetable as TimetableNet}
use Rattle.teg_request.specs.declared.request.Request.{Request}
use Rattle.teg_request.specs.declared.request.Request.TheVariants.{OfNet, OfFiles, ValueOf, TrialOf}
use Rattle.teg_files.specs.declared.status.Status.{Status}
use Rattle.teg_files.specs.Endings.{Ending, Whole, Lost, EndsWith, ending_of, is_whole}
use Rattle.teg_files.specs.Openings.{Opening, Accepted, Refused, OpensNet, OpensBytes}
use Rattle.teg_files.specs.Reads.{OpenedBy, ReadsAll}
use Rattle.teg_run.specs.WholeCalls.{Answered, Serves}
use Rattle.teg_files.specs.Finishing.{Finished}
use Rattle.teg_run.specs.Says.{Asked, SaysFile, SaysOutcome}
use Rattle.teg_request.specs.Requests.{asked_files}
use Rattle.teg_run.specs.ShownFirings.{AnsweredAndShown, ServesAndShows, Shows, ShowsAsked, ShowsBoth, ShowsFiles, ShowsSecond}

-- ---- with and without what was shown

answered_of : (says : List (Result (List ℕ) ShelfFault) → Status → List ℕ → Type 0) (shows : List (Result (List ℕ) ShelfFault) → Bool → Type 0)
    (files : List (Which × List ℕ)) (old new : ShelfState) (ending : Ending) → AnsweredAndShown says shows files old new ending → Answered says files old new ending
answered_of says shows files old new Lost h = (h.0, h.1)
answered_of says shows files old new (Whole status text) h = (h.0, h.1, h.2)

-- a call that shows what it does serves the request
pub serves_of : (says : List (Result (List ℕ) ShelfFault) → Status → List ℕ → Type 0) (shows : List (Result (List ℕ) ShelfFault) → Bool → Type 0)
    (files : List (Which × List ℕ)) (shelf shelf' : ShelfState) (sink sink' : SinkState) (status : Status) →
    ServesAndShows says shows files shelf shelf' sink sink' status → Serves says files shelf shelf' sink sink' status
serves_of says shows files shelf shelf' sink sink' status h = (h.0, answered_of says shows files shelf shelf' h.0 h.1, h.2)

answered_with : (says : List (Result (List ℕ) ShelfFault) → Status → List ℕ → Type 0) (shows : List (Result (List ℕ) ShelfFault) → Bool → Type 0)
    (files : List (Which × List ℕ)) (old new : ShelfState) (ending : Ending) → ((replies : List (Result (List ℕ) ShelfFault)) (is_told : Bool) → shows replies is_told) →
    Answered says files old new ending → AnsweredAndShown says shows files old new ending
answered_with says shows files old new Lost shown h = (h.0, h.1, tt, shown h.0 false)
answered_with says shows files old new (Whole status text) shown h = (h.0, h.1, h.2, shown h.0 true)

-- a call that shows the same whatever the reads gave
pub serves_with : (says : List (Result (List ℕ) ShelfFault) → Status → List ℕ → Type 0) (shows : List (Result (List ℕ) ShelfFault) → Bool → Type 0)
    (files : List (Which × List ℕ)) (shelf shelf' : ShelfState) (sink sink' : SinkState) (status : Status) →
    ((replies : List (Result (List ℕ) ShelfFault)) (is_told : Bool) → shows replies is_told) →
    Serves says files shelf shelf' sink sink' status → ServesAndShows says shows files shelf shelf' sink sink' status
serves_with says shows files shelf shelf' sink sink' status shown h = (h.0, answered_with says shows files shelf shelf' h.0 shown h.1, h.2)

-- ---- the second file

-- nothing is shown of a file of which nothing is told
files_unshown : (command : FileCommand) (net : NetLists) (bytes : List ℕ) (lines : List Firing → List (List ℕ)) → ShowsFiles command net bytes lines lines false
files_unshown JitNet net bytes lines = nothing_shown lines
files_unshown ReplayNet net bytes lines = replay_unshown net bytes lines lines (nothing_shown lines)
files_unshown ForeverNet net bytes lines = nothing_shown lines
files_unshown (TimetableNet period limit) net bytes lines = nothing_shown lines

reply_unshown : (command : FileCommand) (net : NetLists) (lines : List Firing → List (List ℕ)) (reply : Result (List ℕ) ShelfFault) → ShowsSecond command net lines lines (reply ∷ []) false
reply_unshown command net lines (Ok bytes) = files_unshown command net bytes lines
reply_unshown command net lines (Err fault) = nothing_shown lines

refused_unshown : (which : Which) (command : FileCommand) (net : NetLists) (lines : List Firing → List (List ℕ)) (reply : Result (List ℕ) ShelfFault) (status : Status) (text : List ℕ) →
    OpensBytes which reply (Refused status text) → ShowsSecond command net lines lines (reply ∷ []) true
refused_unshown which command net lines (Ok bytes) status text opens = absurd (let bad : ⊥ = cc in bad)
refused_unshown which command net lines (Err fault) status text opens = nothing_shown lines

-- memory ran out at the second file
pub second_lost : (which : Which) (command : FileCommand) (net : NetLists) (lines : List Firing → List (List ℕ)) (name : List ℕ) (old new : ShelfState)
    (says : List (Result (List ℕ) ShelfFault) → Status → List ℕ → Type 0) → OpenedBy {A = List ℕ} (OpensBytes which) name old new None →
    AnsweredAndShown says (ShowsSecond command net lines lines) ((which, name) ∷ []) old new Lost
second_lost which command net lines name old new says h = (h.0 ∷ [], (new, h.1, tt, refl), tt, reply_unshown command net lines h.0)

-- the second file is refused
pub second_refused : (which : Which) (command : FileCommand) (net : NetLists) (lines : List Firing → List (List ℕ)) (name : List ℕ) (old new : ShelfState)
    (goes_on : List ℕ → List (Result (List ℕ) ShelfFault) → Status → List ℕ → Type 0) (status : Status) (text : List ℕ) →
    OpenedBy (OpensBytes which) name old new (Some (Refused status text)) →
    AnsweredAndShown (SaysFile (OpensBytes which) goes_on) (ShowsSecond command net lines lines) ((which, name) ∷ []) old new (Whole status text)
second_refused which command net lines name old new goes_on status text h =
    (h.0 ∷ [], (new, h.1, tt, refl), (Refused status text, h.2, (refl, (refl, refl))), refused_unshown which command net lines h.0 status text h.2)

-- what the outcome of a command says of the bytes that were read
outcome_said : (opens : Result (List ℕ) ShelfFault → Opening (List ℕ) → Type 0) (says : List ℕ → Verdict → List ℕ → Type 0) (bytes : List ℕ) (reply : Result (List ℕ) ShelfFault)
    (outcome : Result CommandOutcome NoMemory) → opens reply (Accepted bytes) → Tells (says bytes) (outcome_of outcome) →
    EndsWith (SaysFile opens (λ b. SaysOutcome (says b)) (reply ∷ [])) (ending_of (outcome_of outcome))
outcome_said opens says bytes reply (Ok outcome) is h = (Accepted bytes, is, (refl, (outcome.verdict, refl, h)))
outcome_said opens says bytes reply (Err e) is h = tt

outcome_shown : (command : FileCommand) (net : NetLists) (before now : List Firing → List (List ℕ)) (given bytes : List ℕ) (outcome : Result CommandOutcome NoMemory) → given ≡ bytes →
    ShowsFiles command net bytes before now (is_ok outcome) → ShowsSecond command net before now (Ok given ∷ []) (is_whole (ending_of (outcome_of outcome)))
outcome_shown command net before now given bytes (Ok outcome) same h = subst (λ (b : List ℕ). ShowsFiles command net b before now true) (sym same) h
outcome_shown command net before now given bytes (Err e) same h = subst (λ (b : List ℕ). ShowsFiles command net b before now false) (sym same) h

-- the second file is accepted, and nothing more is read
second_accepted_by : (which : Which) (command : FileCommand) (net : NetLists) (before now : List Firing → List (List ℕ)) (name : List ℕ) (old new : ShelfState)
    (says : List ℕ → Verdict → List ℕ → Type 0) (bytes : List ℕ) (reply : Result (List ℕ) ShelfFault) (outcome : Result CommandOutcome NoMemory) →
    Reads old new name most_file_bytes reply → OpensBytes which reply (Accepted bytes) → Tells (says bytes) (outcome_of outcome) →
    ShowsFiles command net bytes before now (is_ok outcome) →
    AnsweredAndShown (SaysFile (OpensBytes which) (λ b. SaysOutcome (says b))) (ShowsSecond command net before now) ((which, name) ∷ []) old new (ending_of (outcome_of outcome))
second_accepted_by which command net before now name old new says bytes (Ok given) outcome read opens h shown =
    let same : given ≡ bytes = cc in
    (Ok given ∷ [], (new, read, tt, refl), outcome_said (OpensBytes which) says bytes (Ok given) outcome opens h, outcome_shown command net before now given bytes outcome same shown)
second_accepted_by which command net before now name old new says bytes (Err TooLarge) outcome read opens h shown = absurd (let bad : ⊥ = cc in bad)
second_accepted_by which command net before now name old new says bytes (Err Failed) outcome read opens h shown = absurd (let bad : ⊥ = cc in bad)
second_accepted_by which command net before now name old new says bytes (Err OutOfMemory) outcome read opens h shown = absurd opens

pub second_accepted : (which : Which) (command : FileCommand) (net : NetLists) (before now : List Firing → List (List ℕ)) (name : List ℕ) (old new : ShelfState)
    (says : List ℕ → Verdict → List ℕ → Type 0) (bytes : List ℕ) (outcome : Result CommandOutcome NoMemory) (ending : Ending) → ending ≡ ending_of (outcome_of outcome) →
    OpenedBy (OpensBytes which) name old new (Some (Accepted bytes)) → Tells (says bytes) (outcome_of outcome) → ShowsFiles command net bytes before now (is_ok outcome) →
    AnsweredAndShown (SaysFile (OpensBytes which) (λ b. SaysOutcome (says b))) (ShowsSecond command net before now) ((which, name) ∷ []) old new ending
second_accepted which command net before now name old new says bytes outcome ending e h told shown =
    subst (λ (x : Ending). AnsweredAndShown (SaysFile (OpensBytes which) (λ b. SaysOutcome (says b))) (ShowsSecond command net before now) ((which, name) ∷ []) old new x)
    (sym e) (second_accepted_by which command net before now name old new says bytes h.0 outcome h.1 h.2 told shown)

-- ---- the net file

-- memory ran out at the net
pub both_lost : (command : FileCommand) (lines : List Firing → List (List ℕ)) (name : List ℕ) (files : List (Which × List ℕ)) (old new : ShelfState)
    (says : List (Result (List ℕ) ShelfFault) → Status → List ℕ → Type 0) → OpenedBy {A = NetLists} OpensNet name old new None →
    AnsweredAndShown says (ShowsBoth command lines lines) ((NetFile, name) ∷ files) old new Lost
both_lost command lines name files old new says h = (h.0 ∷ [], (new, h.1, tt, refl), tt, nothing_shown lines)

-- the net is refused
pub both_refused : (command : FileCommand) (lines : List Firing → List (List ℕ)) (name : List ℕ) (files : List (Which × List ℕ)) (old new : ShelfState)
    (goes_on : NetLists → List (Result (List ℕ) ShelfFault) → Status → List ℕ → Type 0) (status : Status) (text : List ℕ) →
    OpenedBy OpensNet name old new (Some (Refused status text)) →
    AnsweredAndShown (SaysFile OpensNet goes_on) (ShowsBoth command lines lines) ((NetFile, name) ∷ files) old new (Whole status text)
both_refused command lines name files old new goes_on status text h =
    (h.0 ∷ [], (new, h.1, tt, refl), (Refused status text, h.2, (refl, (refl, refl))), nothing_shown lines)

-- what is said of the net goes on with the next replies
goes_with : (goes_on : NetLists → List (Result (List ℕ) ShelfFault) → Status → List ℕ → Type 0) (net : NetLists) (reply : Result (List ℕ) ShelfFault)
    (replies : List (Result (List ℕ) ShelfFault)) (ending : Ending) → OpensNet reply (Accepted net) →
    EndsWith (goes_on net replies) ending → EndsWith (SaysFile OpensNet goes_on (reply ∷ replies)) ending
goes_with goes_on net reply replies (Whole status text) opens h = (Accepted net, opens, h)
goes_with goes_on net reply replies Lost opens h = tt

both_accepted_by : (command : FileCommand) (net : NetLists) (before now : List Firing → List (List ℕ)) (name : List ℕ) (files : List (Which × List ℕ)) (old mid new : ShelfState)
    (goes_on : NetLists → List (Result (List ℕ) ShelfFault) → Status → List ℕ → Type 0) (reply : Result (List ℕ) ShelfFault) (replies : List (Result (List ℕ) ShelfFault)) (ending : Ending) →
    Reads old mid name most_file_bytes reply → OpensNet reply (Accepted net) → ReadsAll mid new files replies → EndsWith (goes_on net replies) ending →
    ShowsSecond command net before now replies (is_whole ending) →
    AnsweredAndShown (SaysFile OpensNet goes_on) (ShowsBoth command before now) ((NetFile, name) ∷ files) old new ending
both_accepted_by command net before now name files old mid new goes_on reply [] ending read opens rest h shown =
    (reply ∷ [], (mid, read, tt, rest), goes_with goes_on net reply [] ending opens h, shown)
both_accepted_by command net before now name files old mid new goes_on reply (next ∷ replies) ending read opens rest h shown =
    (reply ∷ next ∷ replies, (mid, read, (net, opens), rest), goes_with goes_on net reply (next ∷ replies) ending opens h, (net, opens, shown))

-- the net is accepted, and the ending goes on with it
pub both_accepted : (command : FileCommand) (net : NetLists) (before now : List Firing → List (List ℕ)) (name : List ℕ) (files : List (Which × List ℕ)) (old mid new : ShelfState)
    (goes_on : NetLists → List (Result (List ℕ) ShelfFault) → Status → List ℕ → Type 0) (ending : Ending) → OpenedBy OpensNet name old mid (Some (Accepted net)) →
    AnsweredAndShown (goes_on net) (ShowsSecond command net before now) files mid new ending →
    AnsweredAndShown (SaysFile OpensNet goes_on) (ShowsBoth command before now) ((NetFile, name) ∷ files) old new ending
both_accepted command net before now name files old mid new goes_on ending h k =
    both_accepted_by command net before now name files old mid new goes_on h.0 k.0 ending h.1 h.2 k.1 k.2 k.3

-- ---- before the first file

-- nothing is shown before a file is read
request_unshown : (request : Request) (lines : List Firing → List (List ℕ)) → Shows request lines lines [] false
request_unshown (OfNet command net) lines = nothing_shown lines
request_unshown (OfFiles command net second) lines = nothing_shown lines
request_unshown (ValueOf text) lines = nothing_shown lines
request_unshown (TrialOf machines) lines = nothing_shown lines

words_unshown : (asked : Option Request) (lines : List Firing → List (List ℕ)) → ShowsAsked asked lines lines [] false
words_unshown None lines = nothing_shown lines
words_unshown (Some request) lines = request_unshown request lines

-- memory ran out at the words
pub words_lost : (asked : Option Request) (lines : List Firing → List (List ℕ)) (shelf : ShelfState) (sink sink' : SinkState) (status : Status) → Finished sink sink' Lost status →
    ServesAndShows (Asked asked lines) (ShowsAsked asked lines lines) (asked_files asked) shelf shelf sink sink' status
words_lost asked lines shelf sink sink' status h = (Lost, ([], refl, tt, words_unshown asked lines), h)
