-- A status of a command comes only with what the command says of its accepted files.
use Rattle.std.proofs.Common.{◌≡◌, ℕ, List, [], ◌∷◌, Some, Result, Ok, Err, sym, subst, ap, ◌∙◌}
use Rattle.teg_net.specs.Nets.{NetLists}
use Rattle.teg_net.specs.Circuits.{IsLive}
use Rattle.teg_reader.specs.declared.refusals.ReadRefusal.{ReadRefusal}
use Rattle.teg_reader.specs.declared.refusals.ReadRefusal.TheVariants.{NotToml}
use Rattle.teg_reader.specs.Documents.{document}
use Rattle.teg_outside.specs.declared.monitor.Firing.{Firing}
use Rattle.teg_outside.specs.declared.shelf.ShelfFault.{ShelfFault}
use Rattle.teg_outside.specs.declared.shelf.ShelfFault.TheVariants.{Failed, TooLarge, OutOfMemory}
use Rattle.teg_outside.specs.Shelves.{ShelfState, Reads}
use Rattle.teg_report.specs.csv_records.Records.{most_file_bytes}
use Rattle.teg_report.specs.declared.answer.Which.{Which}
use Rattle.teg_report.specs.declared.answer.Which.TheVariants.{Net as NetFile}
use Rattle.teg_files.specs.declared.status.Status.{Status}
use Rattle.teg_files.specs.declared.status.Status.TheVariants.{Text, ReadFault}
use Rattle.teg_run.specs.Headline.{Opens, Holds, IsSaidOf}
use Rattle.teg_files.specs.Openings.{Opening, Accepted, Refused, OpensNet, OpensDocument, OpensBytes, read_status}
use Rattle.teg_files.specs.Reads.{ReadsAll}
use Rattle.teg_request.specs.declared.request.Request.{Request}
use Rattle.teg_request.specs.declared.request.Request.TheVariants.{OfNet, OfFiles, ValueOf, TrialOf}
use Rattle.teg_request.specs.Requests.{files_of, second_of}
use Rattle.teg_run.specs.Says.{Says, SaysFile, SaysFiles, SaysNet, SaysOpening, SaysOutcome, SaysSecond}
use Rattle.teg_run.proofs.Verdicts.{IsGiven}
use Rattle.teg_run.proofs.Refusals.{told_file}

-- ---- what is accepted

document_accepted : (said : Result NetLists ReadRefusal) (net : NetLists) → OpensDocument said (Accepted net) → (said ≡ Ok net) × IsLive net
document_accepted (Ok found) net h = (ap (λ (n : NetLists). Ok n) (sym h.0), subst IsLive (sym h.0) h.1)
document_accepted (Err refusal) net h = absurd (let bad : ⊥ = cc in bad)

pub net_opened : (files : List (List ℕ × List ℕ)) (old mid : ShelfState) (name : List ℕ) (reply : Result (List ℕ) ShelfFault) (net : NetLists) → old.files ≡ Some files →
    Reads old mid name most_file_bytes reply → OpensNet reply (Accepted net) → Opens files name net
net_opened files old mid name (Ok bytes) net told read opens =
    let is = document_accepted (document bytes) net opens in (bytes, (told_file files old.files name bytes told read.answer.3, read.answer.2), is.0, is.1)
net_opened files old mid name (Err TooLarge) net told read opens = absurd (let bad : ⊥ = cc in bad)
net_opened files old mid name (Err Failed) net told read opens = absurd (let bad : ⊥ = cc in bad)
net_opened files old mid name (Err OutOfMemory) net told read opens = absurd opens

-- ---- what is refused has no status of a command

document_refused : (said : Result NetLists ReadRefusal) (status : Status) (text : List ℕ) → OpensDocument said (Refused status text) → IsGiven status → ⊥
document_refused (Ok net) status text h own = subst IsGiven h.0 own
document_refused (Err NotToml) status text h own = let e : status ≡ read_status NotToml = cc in subst IsGiven e own
document_refused (Err refusal) status text h own = let e : status ≡ read_status refusal = cc in subst IsGiven e own

net_refused : (reply : Result (List ℕ) ShelfFault) (status : Status) (text : List ℕ) → OpensNet reply (Refused status text) → IsGiven status → ⊥
net_refused (Ok bytes) status text h own = document_refused (document bytes) status text h own
net_refused (Err TooLarge) status text h own = let e : status ≡ Text = cc in subst IsGiven e own
net_refused (Err Failed) status text h own = let e : status ≡ ReadFault = cc in subst IsGiven e own
net_refused (Err OutOfMemory) status text h own = h

bytes_refused : (which : Which) (reply : Result (List ℕ) ShelfFault) (status : Status) (text : List ℕ) → OpensBytes which reply (Refused status text) → IsGiven status → ⊥
bytes_refused which (Ok bytes) status text h own = let bad : ⊥ = cc in bad
bytes_refused which (Err TooLarge) status text h own = let e : status ≡ Text = cc in subst IsGiven e own
bytes_refused which (Err Failed) status text h own = let e : status ≡ ReadFault = cc in subst IsGiven e own
bytes_refused which (Err OutOfMemory) status text h own = h

bytes_held : (files : List (List ℕ × List ℕ)) (old mid : ShelfState) (which : Which) (name : List ℕ) (reply : Result (List ℕ) ShelfFault) (bytes : List ℕ) → old.files ≡ Some files →
    Reads old mid name most_file_bytes reply → OpensBytes which reply (Accepted bytes) → Holds files name bytes
bytes_held files old mid which name (Ok given) bytes told read opens =
    let same : given ≡ bytes = cc in subst (λ (b : List ℕ). Holds files name b) same (told_file files old.files name given told read.answer.3, read.answer.2)
bytes_held files old mid which name (Err TooLarge) bytes told read opens = absurd (let bad : ⊥ = cc in bad)
bytes_held files old mid which name (Err Failed) bytes told read opens = absurd (let bad : ⊥ = cc in bad)
bytes_held files old mid which name (Err OutOfMemory) bytes told read opens = absurd opens

-- ---- what goes on

-- what goes on with a net goes on with the live net of the told file
abbrev GoesOnWith : List (List ℕ × List ℕ) → ShelfState → List ℕ → List (Which × List ℕ) →
    (NetLists → List (Result (List ℕ) ShelfFault) → Status → List ℕ → Type 0) → Status → List ℕ → Type 0
GoesOnWith files new name named goes_on status text =
    (net : NetLists) × Opens files name net
    × ((mid : ShelfState) × (more : List (Result (List ℕ) ShelfFault)) × (mid.files ≡ Some files) × ReadsAll mid new named more × goes_on net more status text)

net_goes_on_by : (files : List (List ℕ × List ℕ)) (old mid new : ShelfState) (name : List ℕ) (named : List (Which × List ℕ))
    (goes_on : NetLists → List (Result (List ℕ) ShelfFault) → Status → List ℕ → Type 0) (reply : Result (List ℕ) ShelfFault) (replies : List (Result (List ℕ) ShelfFault))
    (status : Status) (text : List ℕ) (opening : Opening NetLists) → old.files ≡ Some files → IsGiven status → Reads old mid name most_file_bytes reply → ReadsAll mid new named replies →
    OpensNet reply opening → SaysOpening goes_on opening replies status text → GoesOnWith files new name named goes_on status text
net_goes_on_by files old mid new name named goes_on reply replies status text (Accepted net) told own read rest opens h =
    (net, net_opened files old mid name reply net told read opens, (mid, replies, read.files ∙ told, rest, h))
net_goes_on_by files old mid new name named goes_on reply replies status text (Refused s t) told own read rest opens h =
    absurd (net_refused reply s t opens (subst IsGiven h.1.0 own))

net_goes_on : (files : List (List ℕ × List ℕ)) (old new : ShelfState) (name : List ℕ) (named : List (Which × List ℕ))
    (goes_on : NetLists → List (Result (List ℕ) ShelfFault) → Status → List ℕ → Type 0) (replies : List (Result (List ℕ) ShelfFault)) (status : Status) (text : List ℕ) →
    old.files ≡ Some files → IsGiven status → ReadsAll old new ((NetFile, name) ∷ named) replies → SaysFile OpensNet goes_on replies status text →
    GoesOnWith files new name named goes_on status text
net_goes_on files old new name named goes_on [] status text told own reads h = absurd h
net_goes_on files old new name named goes_on (reply ∷ replies) status text told own reads h =
    net_goes_on_by files old reads.0 new name named goes_on reply replies status text h.0 told own reads.1 reads.3 h.1 h.2

-- what goes on with the bytes of a second file goes on with those of the told file
abbrev GoesOnWithBytes : List (List ℕ × List ℕ) → List ℕ → (List ℕ → List (Result (List ℕ) ShelfFault) → Status → List ℕ → Type 0) → Status → List ℕ → Type 0
GoesOnWithBytes files name goes_on status text =
    (bytes : List ℕ) × Holds files name bytes × ((more : List (Result (List ℕ) ShelfFault)) × goes_on bytes more status text)

bytes_go_on_by : (files : List (List ℕ × List ℕ)) (old mid : ShelfState) (which : Which) (name : List ℕ)
    (goes_on : List ℕ → List (Result (List ℕ) ShelfFault) → Status → List ℕ → Type 0) (reply : Result (List ℕ) ShelfFault) (replies : List (Result (List ℕ) ShelfFault))
    (status : Status) (text : List ℕ) (opening : Opening (List ℕ)) → old.files ≡ Some files → IsGiven status → Reads old mid name most_file_bytes reply →
    OpensBytes which reply opening → SaysOpening goes_on opening replies status text → GoesOnWithBytes files name goes_on status text
bytes_go_on_by files old mid which name goes_on reply replies status text (Accepted bytes) told own read opens h =
    (bytes, bytes_held files old mid which name reply bytes told read opens, (replies, h))
bytes_go_on_by files old mid which name goes_on reply replies status text (Refused s t) told own read opens h =
    absurd (bytes_refused which reply s t opens (subst IsGiven h.1.0 own))

bytes_go_on : (files : List (List ℕ × List ℕ)) (old new : ShelfState) (which : Which) (name : List ℕ)
    (goes_on : List ℕ → List (Result (List ℕ) ShelfFault) → Status → List ℕ → Type 0) (replies : List (Result (List ℕ) ShelfFault)) (status : Status) (text : List ℕ) →
    old.files ≡ Some files → IsGiven status → ReadsAll old new ((which, name) ∷ []) replies → SaysFile (OpensBytes which) goes_on replies status text →
    GoesOnWithBytes files name goes_on status text
bytes_go_on files old new which name goes_on [] status text told own reads h = absurd h
bytes_go_on files old new which name goes_on (reply ∷ replies) status text told own reads h =
    bytes_go_on_by files old reads.0 which name goes_on reply replies status text h.0 told own reads.1 h.1 h.2

-- an answer with a status of a command is what is said of accepted files
pub said_of : (files : List (List ℕ × List ℕ)) (request : Request) (lines : List Firing → List (List ℕ)) (old new : ShelfState) (replies : List (Result (List ℕ) ShelfFault))
    (status : Status) (text : List ℕ) → old.files ≡ Some files → IsGiven status → ReadsAll old new (files_of request) replies → Says request lines replies status text →
    IsSaidOf files lines request status text
said_of files (OfNet command name) lines old new replies status text told own reads h =
    let on = net_goes_on files old new name [] (λ net. SaysOutcome (SaysNet command net)) replies status text told own reads h in
    (on.0, on.1, on.2.4.1)
said_of files (OfFiles command name second) lines old new replies status text told own reads h =
    let on = net_goes_on files old new name ((second_of command, second) ∷ []) (SaysSecond command lines) replies status text told own reads h in
    let then = bytes_go_on files on.2.0 new (second_of command) second (λ bytes. SaysOutcome (SaysFiles command lines on.0 bytes)) on.2.1 status text on.2.2 own on.2.3 on.2.4 in
    (on.0, then.0, on.1, then.1, then.2.1.1)
said_of files (ValueOf value) lines old new replies status text told own reads h = h.1
said_of files (TrialOf machines) lines old new replies status text told own reads h = h.1
