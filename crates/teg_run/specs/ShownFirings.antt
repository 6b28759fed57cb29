-- What the monitors of a call were shown, by what the reads of the call gave. Of the monitors before and now it is given what they would
-- print by the further firings that they would see; `is_told` is false where memory ran out.
use Rattle.std.specs.Prelude.{ℕ, ◌≡◌, ◌≢◌, Bool, true, false, List, [], ◌∷◌, Option, Some, None, Result, Ok}
use Rattle.teg_net.specs.Nets.{NetLists}
use Rattle.teg_outside.specs.declared.monitor.Firing.{Firing}
use Rattle.teg_outside.specs.declared.shelf.ShelfFault.{ShelfFault}
use Rattle.teg_outside.specs.Shelves.{ShelfState}
use Rattle.teg_outside.specs.Sinks.{SinkState}
use Rattle.teg_plan_commands.specs.Replay.{ShowsNothing, ShowsReplay}
use Rattle.teg_report.specs.declared.answer.Which.{Which}
use Rattle.teg_request.specs.declared.request.FileCommand.{FileCommand}
use Rattle.teg_request.specs.declared.request.FileCommand.TheVariants.{Jit as JitNet, Replay as ReplayNet, Forever as ForeverNet, Timetable as TimetableNet}
use Rattle.teg_request.specs.declared.request.Request.{Request}
use Rattle.teg_request.specs.declared.request.Request.TheVariants.{OfNet, OfFiles, ValueOf, TrialOf}
use Rattle.teg_files.specs.declared.status.Status.{Status}
use Rattle.teg_files.specs.declared.status.Status.TheVariants.{NoMemory, WriteFault}
use Rattle.teg_run.specs.Calls.{Call}
use Rattle.teg_files.specs.Endings.{Ending, EndsWith, is_whole}
use Rattle.teg_run.specs.Headline.{AcceptsFiles, ConcernsBoth}
use Rattle.teg_files.specs.Openings.{Accepted, OpensNet}
use Rattle.teg_files.specs.Reads.{ReadsAll}
use Rattle.teg_request.specs.Requests.{request_of, asked_files}
use Rattle.teg_files.specs.Finishing.{Finished}
use Rattle.teg_run.specs.Says.{Asked}
use Rattle.teg_files.specs.Statuses.{IsOwn}

-- what is shown of a live net and the bytes of a second file: the accepted firings of a log, and nothing of another file
abbrev pub ShowsFiles : FileCommand → NetLists → List ℕ → (before now : List Firing → List (List ℕ)) → (is_told : Bool) → Type 0
ShowsFiles JitNet net bytes before now is_told = ShowsNothing before now
ShowsFiles ReplayNet net bytes before now is_told = ShowsReplay net bytes before now is_told
ShowsFiles ForeverNet net bytes before now is_told = ShowsNothing before now
ShowsFiles (TimetableNet period limit) net bytes before now is_told = ShowsNothing before now

-- what is shown of a live net, by the replies for the second file
abbrev pub ShowsSecond : FileCommand → NetLists → (before now : List Firing → List (List ℕ)) → List (Result (List ℕ) ShelfFault) → (is_told : Bool) → Type 0
ShowsSecond command net before now (Ok bytes ∷ []) is_told = ShowsFiles command net bytes before now is_told
ShowsSecond command net before now replies is_told = ShowsNothing before now

-- what is shown by the replies for the net and the second file, which is read only after an accepted net
abbrev pub ShowsBoth : FileCommand → (before now : List Firing → List (List ℕ)) → List (Result (List ℕ) ShelfFault) → (is_told : Bool) → Type 0
ShowsBoth command before now (reply ∷ second ∷ replies) is_told =
    (net : NetLists) × OpensNet reply (Accepted net) × ShowsSecond command net before now (second ∷ replies) is_told
ShowsBoth command before now replies is_told = ShowsNothing before now

-- what a request shows, by the replies for its files
abbrev pub Shows : Request → (before now : List Firing → List (List ℕ)) → List (Result (List ℕ) ShelfFault) → (is_told : Bool) → Type 0
Shows (OfNet command net) before now replies is_told = ShowsNothing before now
Shows (OfFiles command net second) before now replies is_told = ShowsBoth command before now replies is_told
Shows (ValueOf text) before now replies is_told = ShowsNothing before now
Shows (TrialOf machines) before now replies is_told = ShowsNothing before now

-- what the words make the call show
abbrev pub ShowsAsked : Option Request → (before now : List Firing → List (List ℕ)) → List (Result (List ℕ) ShelfFault) → (is_told : Bool) → Type 0
ShowsAsked None before now replies is_told = ShowsNothing before now
ShowsAsked (Some request) before now replies is_told = Shows request before now replies is_told

-- an ending by reads of these files: what is said by the replies, if memory was found, and what was shown by them
abbrev pub AnsweredAndShown : (List (Result (List ℕ) ShelfFault) → Status → List ℕ → Type 0) → (List (Result (List ℕ) ShelfFault) → Bool → Type 0) →
    List (Which × List ℕ) → ShelfState → ShelfState → Ending → Type 0
AnsweredAndShown says shows files old new ending =
    (replies : List (Result (List ℕ) ShelfFault)) × ReadsAll old new files replies × EndsWith (says replies) ending × shows replies (is_whole ending)

-- an ending so answered and shown, and its writing
abbrev pub ServesAndShows : (List (Result (List ℕ) ShelfFault) → Status → List ℕ → Type 0) → (List (Result (List ℕ) ShelfFault) → Bool → Type 0) →
    List (Which × List ℕ) → ShelfState → ShelfState → SinkState → SinkState → Status → Type 0
ServesAndShows says shows files shelf shelf' sink sink' status =
    (ending : Ending) × AnsweredAndShown says shows files shelf shelf' ending × Finished sink sink' ending status

-- the call carries out what is asked and shows it to the monitors, which would print this now after given further firings
abbrev pub ShowsFor : Option Request → Call → (now : List Firing → List (List ℕ)) → Type 0
ShowsFor asked call now =
    ServesAndShows (Asked asked call.lines) (ShowsAsked asked call.lines now) (asked_files asked) call.shelf_before call.shelf_after
    call.sink_before call.sink_after call.status

-- the call carries out what its words ask for, and shows the monitors just the firings of that
abbrev pub ShowsJust : Call → (now : List Firing → List (List ℕ)) → Type 0
ShowsJust call now = ShowsFor (request_of call.words) call now

-- what the monitors of a call were shown, by its words, its status and the files that are told
pub record ShowsTold (call : Call) (now : List Firing → List (List ℕ)) : Type 0 where
  -- Over told files of which no read failed, a log with a live net: just its accepted firings.
  pub of_log : (net : NetLists) (bytes : List ℕ) → ConcernsBoth call ReplayNet net bytes → call.status ≢ NoMemory →
      ShowsReplay net bytes call.lines now true
  -- The same where no memory was found: the firings of some first rows of the log.
  pub of_lost_log : (net : NetLists) (bytes : List ℕ) → ConcernsBoth call ReplayNet net bytes → call.status ≡ NoMemory →
      ShowsReplay net bytes call.lines now false
  -- Over told files, a log that is too long, or whose net is refused: nothing.
  pub of_refused : (files : List (List ℕ × List ℕ)) (name log : List ℕ) → request_of call.words ≡ Some (OfFiles ReplayNet name log) →
      call.shelf_before.files ≡ Some files → (AcceptsFiles files (OfFiles ReplayNet name log) → ⊥) → ShowsNothing call.lines now
  -- A call that ends with a status that no command gives, as for a read that failed: nothing.
  pub of_fault : (IsOwn call.status → ⊥) → call.status ≢ WriteFault → call.status ≢ NoMemory → ShowsNothing call.lines now
  -- Words that ask for no replay: nothing.
  pub of_others : ((name log : List ℕ) → request_of call.words ≢ Some (OfFiles ReplayNet name log)) → ShowsNothing call.lines now
