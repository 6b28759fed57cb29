-- What follows of every call of the workbench, one promise at a time.
use Rattle.std.specs.Prelude.{ℕ, ◌≡◌, ◌≢◌, ◌≤◌, ◌<◌, ◌⊎◌, List, [], ◌∷◌, ◌++◌, length, take, map, Some, None, Ok, Err, Result, ⊤}
use Rattle.teg_net.specs.declared.entries.PlaceId.{PlaceId}
use Rattle.teg_net.specs.Nets.{NetLists}
use Rattle.teg_net.specs.Circuits.{IsLive, IsTokenFree}
use Rattle.teg_reader.specs.declared.refusals.ReadRefusal.{ReadRefusal}
use Rattle.teg_reader.specs.declared.refusals.ReadRefusal.TheVariants.{NotToml}
use Rattle.teg_reader.specs.Documents.{document}
use Rattle.teg_outside.specs.declared.shelf.ShelfFault.{ShelfFault}
use Rattle.teg_outside.specs.Causes.{Rose, Rested}
use Rattle.teg_outside.specs.Shelves.{ShelfState, ReadsGrow, file_of}
use Rattle.teg_outside.specs.Sinks.{BytesGrow, PrefixGrows}
use Rattle.teg_report.specs.declared.answer.Which.{Which}
use Rattle.teg_report.specs.declared.answer.Which.TheVariants.{Net as NetFile}
use Rattle.teg_files.specs.declared.status.Status.{Status}
use Rattle.teg_files.specs.declared.status.Status.TheVariants.{Words, Text, Net, ReadFault, WriteFault, NoMemory}
use Rattle.teg_outcome.specs.declared.outcome.Verdict.{Verdict}
use Rattle.teg_run.specs.Calls.{Call}
use Rattle.teg_files.specs.Endings.{Whole, Lost}
use Rattle.teg_files.specs.Reads.{ReadsAll}
use Rattle.teg_request.specs.declared.request.NetCommand.{NetCommand}
use Rattle.teg_request.specs.declared.request.FileCommand.{FileCommand}
use Rattle.teg_request.specs.declared.request.Request.{Request}
use Rattle.teg_request.specs.declared.request.Request.TheVariants.{OfNet, OfFiles, ValueOf, TrialOf}
use Rattle.teg_request.specs.Requests.{request_of, files_of, asked_files}
use Rattle.teg_files.specs.Finishing.{Finished}
use Rattle.teg_run.specs.WholeCalls.{Runs}
use Rattle.teg_run.specs.Says.{Asked, Says, SaysFiles, SaysNet}
use Rattle.teg_files.specs.Statuses.{IsOwn, status_of}
use Rattle.teg_outside.specs.declared.monitor.Firing.{Firing}
use Rattle.teg_report.specs.csv_records.Records.{most_file_bytes}
use Rattle.teg_pace_commands.specs.Trial.{SaysTrial}
use Rattle.teg_net_commands.specs.Calc.{SaysCalc}
use Rattle.teg_files.specs.RefusalTexts.{usage, read_text, token_free_text, too_large_text, fault_text}

-- ---- how a call ended

-- no memory was found, and nothing was written
abbrev pub EndsLost : Call → Type 0
EndsLost call = Finished call.sink_before call.sink_after Lost call.status

-- the call ends with this status and the whole of this text, unless writing or memory failed first
abbrev pub Ends : Call → Status → List ℕ → Type 0
Ends call wanted text = Finished call.sink_before call.sink_after (Whole wanted text) call.status ⊎ EndsLost call

-- no read of the call failed
abbrev pub ReadsAreCalm : Call → Type 0
ReadsAreCalm call = Rested call.shelf_before.faults call.shelf_after.faults

-- no write of the call failed
abbrev pub WritesAreCalm : Call → Type 0
WritesAreCalm call = Rested call.sink_before.faults call.sink_after.faults

-- ---- files by name, and what they hold

-- the file of that name has these bytes, at most as many as a file may have
abbrev pub Holds : List (List ℕ × List ℕ) → List ℕ → List ℕ → Type 0
Holds files name bytes = (file_of files name ≡ Some bytes) × (length bytes ≤ most_file_bytes)

-- the file of that name has more bytes than a file may have
abbrev pub IsFileTooLong : List (List ℕ × List ℕ) → List ℕ → Type 0
IsFileTooLong files name = (bytes : List ℕ) × (file_of files name ≡ Some bytes) × (most_file_bytes < length bytes)

-- the file of that name says this net, and it is live
abbrev pub Opens : List (List ℕ × List ℕ) → List ℕ → NetLists → Type 0
Opens files name net = (bytes : List ℕ) × Holds files name bytes × (document bytes ≡ Ok net) × IsLive net

-- the net file is too long or no TOML, and this text says so
abbrev pub NetIsNoText : List (List ℕ × List ℕ) → List ℕ → List ℕ → Type 0
NetIsNoText files name text =
    (IsFileTooLong files name × (text ≡ too_large_text NetFile))
    ⊎ ((bytes : List ℕ) × Holds files name bytes × (document bytes ≡ Err NotToml) × (text ≡ read_text NotToml))

-- the net file says no net for another cause, or a net with a token-free circuit, and this text says so
abbrev pub NetIsRefused : List (List ℕ × List ℕ) → List ℕ → List ℕ → Type 0
NetIsRefused files name text =
    ((bytes : List ℕ) × (refusal : ReadRefusal) × Holds files name bytes × (document bytes ≡ Err refusal) × (refusal ≢ NotToml)
    × (text ≡ read_text refusal))
    ⊎ ((bytes : List ℕ) × (net : NetLists) × (circuit : List PlaceId) × Holds files name bytes × (document bytes ≡ Ok net)
    × IsTokenFree net circuit × (text ≡ token_free_text net circuit))

-- the file of that name has bytes, at most as many as a file may have
abbrev pub IsThere : List (List ℕ × List ℕ) → List ℕ → Type 0
IsThere files name = (bytes : List ℕ) × Holds files name bytes

-- ---- why files are refused

-- the file is accepted as such a file
abbrev pub IsAccepted : List (List ℕ × List ℕ) → Which → List ℕ → Type 0
IsAccepted files NetFile name = (net : NetLists) × Opens files name net
IsAccepted files which name = IsThere files name

-- the file is no text of such a file, and this text says so; a file that is not the net is one unless it is too long
abbrev pub IsNoText : List (List ℕ × List ℕ) → Which → List ℕ → List ℕ → Type 0
IsNoText files NetFile name text = NetIsNoText files name text
IsNoText files which name text = IsFileTooLong files name × (text ≡ too_large_text which)

-- the file is one that says no live net, and this text says so
abbrev pub IsNoNet : List (List ℕ × List ℕ) → Which → List ℕ → List ℕ → Type 0
IsNoNet files NetFile name text = NetIsRefused files name text
IsNoNet files which name text = ⊥

-- one of these files has this fault, which this text says, and those before it are accepted
abbrev pub HasFault : (List (List ℕ × List ℕ) → Which → List ℕ → List ℕ → Type 0) → List (List ℕ × List ℕ) → List (Which × List ℕ) → List ℕ → Type 0
HasFault fault files [] text = ⊥
HasFault fault files (file ∷ named) text =
    fault files file.0 file.1 text ⊎ (IsAccepted files file.0 file.1 × HasFault fault files named text)

-- over told files, where a file of the request has this fault and no read failed, the call ends with this status and a text of the fault
abbrev pub EndsWithFault : (List (List ℕ × List ℕ) → Which → List ℕ → List ℕ → Type 0) → Status → Call → Type 0
EndsWithFault fault wanted call =
    (files : List (List ℕ × List ℕ)) (request : Request) → call.shelf_before.files ≡ Some files → ReadsAreCalm call →
    request_of call.words ≡ Some request → ((text : List ℕ) × HasFault fault files (files_of request) text) →
    (text : List ℕ) × HasFault fault files (files_of request) text × Ends call wanted text

-- over told files, this status comes only where a file of the request has this fault, and a text of the fault was written
abbrev pub ComesOnly : (List (List ℕ × List ℕ) → Which → List ℕ → List ℕ → Type 0) → Status → Call → Type 0
ComesOnly fault wanted call =
    (files : List (List ℕ × List ℕ)) → call.shelf_before.files ≡ Some files → call.status ≡ wanted →
    (request : Request) × (text : List ℕ) × (request_of call.words ≡ Some request) × HasFault fault files (files_of request) text
    × BytesGrow call.sink_before.bytes call.sink_after.bytes text

-- the file is no text of such a file, or it counted as too long, and this text says so
abbrev pub CountsAsNoText : Call → List (List ℕ × List ℕ) → Which → List ℕ → List ℕ → Type 0
CountsAsNoText call files which name text =
    IsNoText files which name text ⊎ ((text ≡ too_large_text which) × Rose call.shelf_before.overlong call.shelf_after.overlong)

-- for every shelf, a text that says that a file is too long comes only where the count of over-long files rose
abbrev pub OverlongRose : Call → Type 0
OverlongRose call =
    (which : Which) (bytes : List ℕ) → call.sink_before.bytes ≡ Some bytes → call.sink_after.bytes ≡ Some (bytes ++ too_large_text which) →
    Rose call.shelf_before.overlong call.shelf_after.overlong

-- ---- what was written and read

-- the words lead to this status and this text, by what the reads of this call gave
abbrev pub IsTextOf : Call → Status → List ℕ → Type 0
IsTextOf call status text =
    (replies : List (Result (List ℕ) ShelfFault)) × ReadsAll call.shelf_before call.shelf_after (asked_files (request_of call.words)) replies
    × Asked (request_of call.words) call.lines replies status text

-- the whole text of the words was written, and nothing else
abbrev pub WroteWhole : Call → Type 0
WroteWhole call =
    (text : List ℕ) × IsTextOf call call.status text × (call.sink_after.faults ≡ call.sink_before.faults)
    × BytesGrow call.sink_before.bytes call.sink_after.bytes text

-- a first part of the text of the words was written, and nothing else
abbrev pub WrotePrefix : Call → Type 0
WrotePrefix call =
    (status : Status) × (text : List ℕ) × IsTextOf call status text × PrefixGrows call.sink_before.bytes call.sink_after.bytes text

-- a read of a file as it is told
abbrev pub as_told : Which × List ℕ → List ℕ × ℕ
as_told file = (file.1, most_file_bytes)

-- where reads are told, they grew by a first part of the reads of these files, in order, each once
abbrev pub ReadsFirstOf : ShelfState → ShelfState → List (Which × List ℕ) → Type 0
ReadsFirstOf old new named = (n : ℕ) × (n ≤ length named) × ReadsGrow old.reads new.reads (take n (map as_told named))

-- over told files and reads, where the second of two files was read, the first says a live net
abbrev pub SecondOnlyOfLive : Call → Type 0
SecondOnlyOfLive call =
    (files : List (List ℕ × List ℕ)) (reads : List (List ℕ × ℕ)) (command : FileCommand) (name second : List ℕ) →
    call.shelf_before.files ≡ Some files → call.shelf_before.reads ≡ Some reads → request_of call.words ≡ Some (OfFiles command name second) →
    call.shelf_after.reads ≡ Some (reads ++ (name, most_file_bytes) ∷ (second, most_file_bytes) ∷ []) → (net : NetLists) × Opens files name net

-- the file that the text names as unreadable is the last of these that was read
abbrev pub NamesLastRead : Call → List (Which × List ℕ) → Type 0
NamesLastRead call named =
    (before : List (Which × List ℕ)) × (file : Which × List ℕ) × (after : List (Which × List ℕ)) × (named ≡ before ++ file ∷ after)
    × ReadsGrow call.shelf_before.reads call.shelf_after.reads (map as_told (before ++ file ∷ []))
    × BytesGrow call.sink_before.bytes call.sink_after.bytes (fault_text file.0)

-- ---- what is said of accepted files

-- the files of the request are accepted: its net file, where it has one, says a live net
abbrev pub AcceptsFiles : List (List ℕ × List ℕ) → Request → Type 0
AcceptsFiles files (OfNet command name) = (net : NetLists) × Opens files name net
AcceptsFiles files (OfFiles command name second) = ((net : NetLists) × Opens files name net) × IsThere files second
AcceptsFiles files (ValueOf text) = ⊤
AcceptsFiles files (TrialOf machines) = ⊤

-- this status and text is what the request says of accepted files
abbrev pub IsSaidOf : List (List ℕ × List ℕ) → (List Firing → List (List ℕ)) → Request → Status → List ℕ → Type 0
IsSaidOf files lines (OfNet command name) status text =
    (net : NetLists) × Opens files name net × ((verdict : Verdict) × (status ≡ status_of verdict) × SaysNet command net verdict text)
IsSaidOf files lines (OfFiles command name second) status text =
    (net : NetLists) × (bytes : List ℕ) × Opens files name net × Holds files second bytes
    × ((verdict : Verdict) × (status ≡ status_of verdict) × SaysFiles command lines net bytes verdict text)
IsSaidOf files lines (ValueOf value) status text = (verdict : Verdict) × (status ≡ status_of verdict) × SaysCalc value verdict text
IsSaidOf files lines (TrialOf machines) status text = (verdict : Verdict) × (status ≡ status_of verdict) × SaysTrial machines verdict text

-- over told files, a status of a command comes only where the request says so of accepted files, and this text was written
abbrev pub OwnOnly : Call → Type 0
OwnOnly call =
    (files : List (List ℕ × List ℕ)) → call.shelf_before.files ≡ Some files → IsOwn call.status →
    (request : Request) × (text : List ℕ) × (request_of call.words ≡ Some request) × IsSaidOf files call.lines request call.status text
    × BytesGrow call.sink_before.bytes call.sink_after.bytes text

-- over told files, where words and files are accepted and nothing failed, the call ends with what the request says of them, or for want of memory
abbrev pub EndsAsSaid : Call → Type 0
EndsAsSaid call =
    (files : List (List ℕ × List ℕ)) (request : Request) → request_of call.words ≡ Some request → call.shelf_before.files ≡ Some files →
    ReadsAreCalm call → WritesAreCalm call → AcceptsFiles files request →
    (call.status ≡ NoMemory) ⊎ ((text : List ℕ) × IsSaidOf files call.lines request call.status text)

-- the words ask for this command on a net, whose told file says this live net, and no read failed
pub record Concerns (call : Call) (command : NetCommand) (net : NetLists) : Type 0 where
  pub name : List ℕ
  pub files : List (List ℕ × List ℕ)
  pub asks : request_of call.words ≡ Some (OfNet command name)
  pub told : call.shelf_before.files ≡ Some files
  pub calm : ReadsAreCalm call
  pub opens : Opens files name net

-- a command on a live net ends with what it says of that net, or for want of memory
abbrev pub SaysOfNet : Call → Type 0
SaysOfNet call =
    (command : NetCommand) (net : NetLists) → Concerns call command net →
    ((verdict : Verdict) × (text : List ℕ) × SaysNet command net verdict text × Ends call (status_of verdict) text) ⊎ EndsLost call

-- the words ask for this command on a net and a second file, whose told files say this live net and these bytes, and no read failed
pub record ConcernsBoth (call : Call) (command : FileCommand) (net : NetLists) (bytes : List ℕ) : Type 0 where
  pub name : List ℕ
  pub second : List ℕ
  pub files : List (List ℕ × List ℕ)
  pub asks : request_of call.words ≡ Some (OfFiles command name second)
  pub told : call.shelf_before.files ≡ Some files
  pub calm : ReadsAreCalm call
  pub opens : Opens files name net
  pub holds : Holds files second bytes

-- a command on a live net and a second file ends with what it says of them, or for want of memory
abbrev pub SaysOfBoth : Call → Type 0
SaysOfBoth call =
    (command : FileCommand) (net : NetLists) (bytes : List ℕ) → ConcernsBoth call command net bytes →
    ((verdict : Verdict) × (text : List ℕ) × SaysFiles command call.lines net bytes verdict text × Ends call (status_of verdict) text) ⊎ EndsLost call

-- a request that names no file ends with what it says, or for want of memory
abbrev pub SaysOfWords : Call → Type 0
SaysOfWords call =
    (request : Request) → request_of call.words ≡ Some request → files_of request ≡ [] →
    ((status : Status) × (text : List ℕ) × Says request call.lines [] status text × Ends call status text) ⊎ EndsLost call

-- ---- the promises

-- the promises of a call
pub record KeepsPromises (call : Call) : Type 0 where
  -- Words that ask for nothing: no file is read, and the usage is written.
  pub words : request_of call.words ≡ None → (call.shelf_after ≡ call.shelf_before) × Ends call Words usage
  pub words_only : call.status ≡ Words → request_of call.words ≡ None
  -- A file that is too long, or a net file that is no TOML: exactly then, where files are told.
  pub text : EndsWithFault IsNoText Text call
  pub text_only : ReadsAreCalm call → ComesOnly IsNoText Text call
  pub text_counted : ComesOnly (CountsAsNoText call) Text call
  pub overlong : call.status ≡ Text → OverlongRose call
  -- A net file that says no net, or one with a token-free circuit: exactly then, where files are told.
  pub net : EndsWithFault IsNoNet Net call
  pub net_only : ComesOnly IsNoNet Net call
  -- A status of a command comes only where it says so of accepted files.
  pub own_only : OwnOnly call
  -- A command on a live net, and on a second file: what it says of them is written.
  pub of_net : SaysOfNet call
  pub of_both : SaysOfBoth call
  -- A request without a file: the value of an expression, and the line of machines.
  pub of_words : SaysOfWords call
  -- What was written: the whole text, a first part before a fault, nothing for want of memory.
  pub written : call.status ≢ WriteFault → call.status ≢ NoMemory → WroteWhole call
  pub cut_off : call.status ≡ WriteFault → WrotePrefix call
  pub unwritten : call.status ≡ NoMemory → call.sink_after ≡ call.sink_before
  -- What was read, and the causes of faults.
  pub reads : ReadsFirstOf call.shelf_before call.shelf_after (asked_files (request_of call.words))
  pub second_read : SecondOnlyOfLive call
  pub read_fault : call.status ≡ ReadFault → Rose call.shelf_before.faults call.shelf_after.faults
  pub fault_named : call.status ≡ ReadFault → NamesLastRead call (asked_files (request_of call.words))
  pub write_fault : call.status ≡ WriteFault → Rose call.sink_before.faults call.sink_after.faults
  -- Accepted words and files, and no fault: no other ending than the command's own, or want of memory.
  pub complete : EndsAsSaid call

-- a call that runs as the workbench does keeps all of them
abbrev pub RunsKeepPromises : Type 0
RunsKeepPromises = (call : Call) → Runs call → KeepsPromises call
