-- What is said where the net file is told and says a live net.
use Rattle.std.proofs.Common.{◌≡◌, ℕ, List, [], ◌∷◌, Some, Result, Ok, Err, subst, ◌∙◌}
use Rattle.teg_net.specs.Nets.{NetLists}
use Rattle.teg_net.specs.Circuits.{IsLive}
use Rattle.teg_reader.specs.declared.refusals.ReadRefusal.{ReadRefusal}
use Rattle.teg_reader.specs.Documents.{document}
use Rattle.teg_outside.specs.declared.shelf.ShelfFault.{ShelfFault}
use Rattle.teg_outside.specs.declared.shelf.ShelfFault.TheVariants.{Failed, TooLarge, OutOfMemory}
use Rattle.teg_outside.specs.Causes.{Rested}
use Rattle.teg_outside.specs.Shelves.{ShelfState, Reads}
use Rattle.teg_outside.proofs.Counts.{rose_not_rested, rested_then}
use Rattle.teg_report.specs.csv_records.Records.{most_file_bytes}
use Rattle.teg_report.specs.declared.answer.Which.{Which}
use Rattle.teg_report.specs.declared.answer.Which.TheVariants.{Net as NetFile}
use Rattle.teg_files.specs.declared.status.Status.{Status}
use Rattle.teg_run.specs.Headline.{Opens, Holds}
use Rattle.teg_files.specs.Openings.{Opening, Accepted, Refused, OpensNet, OpensDocument, OpensBytes}
use Rattle.teg_files.specs.Reads.{ReadsAll}
use Rattle.teg_run.specs.Says.{SaysFile, SaysOpening}
use Rattle.teg_run.proofs.ReadOrder.{none_left}
use Rattle.teg_run.proofs.Refusals.{told_file, told_long, not_long, same_bytes, same_document, live_not_free}
use Rattle.teg_run.proofs.Ways.{said_of_refused, ends_here}

-- what goes on with the net
live_bytes : (net : NetLists) (goes_on : NetLists → List (Result (List ℕ) ShelfFault) → Status → List ℕ → Type 0)
    (replies : List (Result (List ℕ) ShelfFault)) (status : Status) (text : List ℕ) (said : Result NetLists ReadRefusal) (opening : Opening NetLists) →
    IsLive net → said ≡ Ok net → OpensDocument said opening → SaysOpening goes_on opening replies status text → goes_on net replies status text
live_bytes net goes_on replies status text (Ok found) (Accepted file) live is opens h =
    let same : file ≡ net = cc (opens.0) in subst (λ (n : NetLists). goes_on n replies status text) same h
live_bytes net goes_on replies status text (Ok found) (Refused status' text') live is opens h =
    let same : found ≡ net = cc in absurd (live_not_free net found opens.1.0 live same opens.1.1)
live_bytes net goes_on replies status text (Err refusal) opening live is opens h = absurd (let bad : ⊥ = cc in bad)

-- what is said after the reply for a told live net goes on with that net
pub live_reply : (files : List (List ℕ × List ℕ)) (old mid new : ShelfState) (name : List ℕ) (named : List (Which × List ℕ)) (net : NetLists)
    (goes_on : NetLists → List (Result (List ℕ) ShelfFault) → Status → List ℕ → Type 0) (reply : Result (List ℕ) ShelfFault)
    (replies : List (Result (List ℕ) ShelfFault)) (status : Status) (text : List ℕ) (opening : Opening NetLists) →
    old.files ≡ Some files → Rested old.faults new.faults → Opens files name net → Reads old mid name most_file_bytes reply →
    ReadsAll mid new named replies → OpensNet reply opening → SaysOpening goes_on opening replies status text → goes_on net replies status text
live_reply files old mid new name named net goes_on (Ok bytes) replies status text opening told calm opens read rest opened h =
    let is = same_document files name bytes opens.0 (Ok net) (told_file files old.files name bytes told read.answer.3) opens.1.0 opens.2 in
    live_bytes net goes_on replies status text (document bytes) opening opens.3 is opened h
live_reply files old mid new name named net goes_on (Err TooLarge) replies status text opening told calm opens read rest opened h =
    let said = said_of_refused goes_on opening replies status _ text _ opened h in
    let last = ends_here old mid new name (Err TooLarge) (none_left mid new named replies said.0 rest) read in
    absurd (not_long files name opens.0 opens.1.0 opens.1.1 (told_long files old.files name told (last.answer.1 calm)))
live_reply files old mid new name named net goes_on (Err Failed) replies status text opening told calm opens read rest opened h =
    let said = said_of_refused goes_on opening replies status _ text _ opened h in
    let last = ends_here old mid new name (Err Failed) (none_left mid new named replies said.0 rest) read in
    absurd (rose_not_rested old.faults new.faults last.answer.0 calm)
live_reply files old mid new name named net goes_on (Err OutOfMemory) replies status text opening told calm opens read rest opened h = absurd opened

-- what is said goes on with the live net that the told file says
pub live_goes_on : (files : List (List ℕ × List ℕ)) (old new : ShelfState) (name : List ℕ) (named : List (Which × List ℕ)) (net : NetLists)
    (goes_on : NetLists → List (Result (List ℕ) ShelfFault) → Status → List ℕ → Type 0) (replies : List (Result (List ℕ) ShelfFault))
    (status : Status) (text : List ℕ) → old.files ≡ Some files → Rested old.faults new.faults → Opens files name net →
    ReadsAll old new ((NetFile, name) ∷ named) replies → SaysFile OpensNet goes_on replies status text →
    (mid : ShelfState) × (more : List (Result (List ℕ) ShelfFault)) × (mid.files ≡ Some files) × Rested mid.faults new.faults × ReadsAll mid new named more × goes_on net more status text
live_goes_on files old new name named net goes_on [] status text told calm opens reads h = absurd h
live_goes_on files old new name named net goes_on (reply ∷ replies) status text told calm opens reads h = (
  reads.0,
  replies,
  reads.1.files ∙ told,
  rested_then old.faults reads.0.faults new.faults reads.1.faults calm,
  reads.3,
  live_reply files old reads.0 new name named net goes_on reply replies status text h.0 told calm opens reads.1 reads.3 h.1 h.2,
)

-- ---- a second file

held_reply : (files : List (List ℕ × List ℕ)) (old mid new : ShelfState) (which : Which) (name bytes : List ℕ)
    (goes_on : List ℕ → List (Result (List ℕ) ShelfFault) → Status → List ℕ → Type 0) (reply : Result (List ℕ) ShelfFault)
    (replies : List (Result (List ℕ) ShelfFault)) (status : Status) (text : List ℕ) (opening : Opening (List ℕ)) →
    old.files ≡ Some files → Rested old.faults new.faults → Holds files name bytes → Reads old mid name most_file_bytes reply →
    ReadsAll mid new [] replies → OpensBytes which reply opening → SaysOpening goes_on opening replies status text → goes_on bytes replies status text
held_reply files old mid new which name bytes goes_on (Ok read_bytes) replies status text opening told calm holds read rest opened h =
    let same = same_bytes files name read_bytes bytes (told_file files old.files name read_bytes told read.answer.3) holds.0 in
    let said = subst (λ (o : Opening (List ℕ)). SaysOpening goes_on o replies status text) opened h in
    subst (λ (b : List ℕ). goes_on b replies status text) same said
held_reply files old mid new which name bytes goes_on (Err TooLarge) replies status text opening told calm holds read rest opened h =
    let said = said_of_refused goes_on opening replies status _ text _ opened h in
    let last = ends_here old mid new name (Err TooLarge) (none_left mid new [] replies said.0 rest) read in
    absurd (not_long files name bytes holds.0 holds.1 (told_long files old.files name told (last.answer.1 calm)))
held_reply files old mid new which name bytes goes_on (Err Failed) replies status text opening told calm holds read rest opened h =
    let said = said_of_refused goes_on opening replies status _ text _ opened h in
    let last = ends_here old mid new name (Err Failed) (none_left mid new [] replies said.0 rest) read in
    absurd (rose_not_rested old.faults new.faults last.answer.0 calm)
held_reply files old mid new which name bytes goes_on (Err OutOfMemory) replies status text opening told calm holds read rest opened h = absurd opened

-- what is said goes on with the bytes of the told second file
pub held_goes_on : (files : List (List ℕ × List ℕ)) (old new : ShelfState) (which : Which) (name bytes : List ℕ)
    (goes_on : List ℕ → List (Result (List ℕ) ShelfFault) → Status → List ℕ → Type 0) (replies : List (Result (List ℕ) ShelfFault))
    (status : Status) (text : List ℕ) → old.files ≡ Some files → Rested old.faults new.faults → Holds files name bytes →
    ReadsAll old new ((which, name) ∷ []) replies → SaysFile (OpensBytes which) goes_on replies status text →
    (more : List (Result (List ℕ) ShelfFault)) × goes_on bytes more status text
held_goes_on files old new which name bytes goes_on [] status text told calm holds reads h = absurd h
held_goes_on files old new which name bytes goes_on (reply ∷ replies) status text told calm holds reads h =
    (replies, held_reply files old reads.0 new which name bytes goes_on reply replies status text h.0 told calm holds reads.1 reads.3 h.1 h.2)
