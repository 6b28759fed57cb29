-- The ways in which an answer comes, by reads of the files of a request.
use Rattle.std.proofs.Common.{◌≡◌, ℕ, ◌≤◌, ◌⊎◌, inl, inr, List, [], ◌∷◌, length, Result, Ok, Err, refl, sym, subst, ◌∙◌}
use Rattle.teg_net.specs.Nets.{NetLists}
use Rattle.teg_reader.specs.declared.refusals.ReadRefusal.{ReadRefusal}
use Rattle.teg_reader.specs.declared.refusals.ReadRefusal.TheVariants.{NotToml}
use Rattle.teg_reader.specs.Documents.{document}
use Rattle.teg_outside.specs.declared.monitor.Firing.{Firing}
use Rattle.teg_outside.specs.declared.shelf.ShelfFault.{ShelfFault}
use Rattle.teg_outside.specs.declared.shelf.ShelfFault.TheVariants.{Failed, TooLarge, OutOfMemory}
use Rattle.teg_outside.specs.Shelves.{ShelfState, IsFile, Reads}
use Rattle.teg_report.specs.csv_records.Records.{most_file_bytes}
use Rattle.teg_report.specs.declared.answer.Which.{Which}
use Rattle.teg_report.specs.declared.answer.Which.TheVariants.{Net as NetFile}
use Rattle.teg_files.specs.declared.status.Status.{Status}
use Rattle.teg_outcome.specs.declared.outcome.Verdict.{Verdict}
use Rattle.teg_files.specs.Openings.{Opening, Accepted, Refused, OpensNet, OpensDocument, OpensBytes, read_status}
use Rattle.teg_files.specs.Reads.{ReadsAll}
use Rattle.teg_request.specs.declared.request.FileCommand.{FileCommand}
use Rattle.teg_request.specs.declared.request.FileCommand.TheVariants.{Jit as JitNet, Replay as ReplayNet, Forever as ForeverNet, Timetable as TimetableNet}
use Rattle.teg_request.specs.declared.request.Request.{Request}
use Rattle.teg_request.specs.declared.request.Request.TheVariants.{OfNet, OfFiles, ValueOf, TrialOf}
use Rattle.teg_request.specs.Requests.{files_of, second_of}
use Rattle.teg_run.specs.Says.{Says, SaysFile, SaysFiles, SaysNet, SaysOpening, SaysOutcome, SaysSecond}
use Rattle.teg_pace_commands.specs.Trial.{SaysTrial}
use Rattle.teg_net_commands.specs.Calc.{SaysCalc}
use Rattle.teg_files.specs.RefusalTexts.{read_text}
use Rattle.teg_run.proofs.ReadOrder.{none_left}
use Rattle.teg_run.proofs.Refusals.{Accepts, Refusal, Unread, Overlong, NoToml, NoNet, NotLive}
use Rattle.teg_run.proofs.Verdicts.{IsGiven, verdict_is_own}

-- the bytes of a file that was read and accepted
pub record Taken (old mid : ShelfState) (which : Which) (name : List ℕ) : Type 0 where
  pub bytes : List ℕ
  pub read : Reads old mid name most_file_bytes (Ok bytes)
  pub accepts : Accepts which bytes

-- one of these files is refused after those before it were accepted, or all are and the command has its own status
abbrev pub Way : ShelfState → ShelfState → List (Which × List ℕ) → Status → List ℕ → Type 0
Way old new [] status text = IsGiven status
Way old new (file ∷ files) status text =
    Refusal old new file.0 file.1 status text
    ⊎ ((mid : ShelfState) × Taken old mid file.0 file.1 × Way mid new files status text)

-- ---- a file that is refused

-- what is said of a refused file, after which nothing is read
pub said_of_refused : {A : Type 0} (goes_on : A → List (Result (List ℕ) ShelfFault) → Status → List ℕ → Type 0) (opening : Opening A)
    (replies : List (Result (List ℕ) ShelfFault)) (status status' : Status) (text text' : List ℕ) → opening ≡ Refused status' text' →
    SaysOpening goes_on opening replies status text → (replies ≡ []) × (status ≡ status') × (text ≡ text')
said_of_refused goes_on opening replies status status' text text' e h =
    let k = subst (λ (o : Opening _). SaysOpening goes_on o replies status text) e h in (k.0, k.1.0, k.1.1)

-- the shelf after the one read is that at the end, where nothing more was read
pub ends_here : (old mid new : ShelfState) (name : List ℕ) (reply : Result (List ℕ) ShelfFault) → new ≡ mid → Reads old mid name most_file_bytes reply →
    Reads old new name most_file_bytes reply
ends_here old mid new name reply e read = subst (λ (s : ShelfState). Reads old s name most_file_bytes reply) (sym e) read

-- bytes that say no net
refused_bytes : (old new : ShelfState) (name bytes : List ℕ) (status : Status) (text : List ℕ) (refusal : ReadRefusal) →
    IsFile old.files name bytes → length bytes ≤ most_file_bytes → document bytes ≡ Err refusal →
    status ≡ read_status refusal → text ≡ read_text refusal → Refusal old new NetFile name status text
refused_bytes old new name bytes status text NotToml file short is s t = NoToml refl s t bytes file short is
refused_bytes old new name bytes status text refusal file short is s t = NoNet refl s refusal t bytes file short is (λ e. cc)

-- ---- the net file, and what comes after it

net_way_bytes : (old mid new : ShelfState) (name bytes : List ℕ) (files : List (Which × List ℕ))
    (goes_on : NetLists → List (Result (List ℕ) ShelfFault) → Status → List ℕ → Type 0) (replies : List (Result (List ℕ) ShelfFault))
    (status : Status) (text : List ℕ) (said : Result NetLists ReadRefusal) (opening : Opening NetLists) →
    Reads old mid name most_file_bytes (Ok bytes) → ReadsAll mid new files replies → document bytes ≡ said → OpensDocument said opening →
    SaysOpening goes_on opening replies status text → ((net : NetLists) → goes_on net replies status text → Way mid new files status text) →
    Way old new ((NetFile, name) ∷ files) status text
net_way_bytes old mid new name bytes files goes_on replies status text (Ok net) (Accepted file) read rest is opens h way =
    inr (mid, record { bytes = bytes; read = read; accepts = (net, is, opens.1) }, way file h)
net_way_bytes old mid new name bytes files goes_on replies status text (Ok net) (Refused status' text') read rest is opens h way =
    inl (NotLive refl (h.1.0 ∙ opens.0) net opens.1.0 (h.1.1 ∙ opens.1.2) bytes read.answer.3 read.answer.2 is opens.1.1)
net_way_bytes old mid new name bytes files goes_on replies status text (Err refusal) opening read rest is opens h way =
    let said = said_of_refused goes_on opening replies status _ text _ opens h in
    inl (refused_bytes old new name bytes status text refusal read.answer.3 read.answer.2 is said.1 said.2)

net_way_reply : (old mid new : ShelfState) (name : List ℕ) (files : List (Which × List ℕ))
    (goes_on : NetLists → List (Result (List ℕ) ShelfFault) → Status → List ℕ → Type 0) (reply : Result (List ℕ) ShelfFault)
    (replies : List (Result (List ℕ) ShelfFault)) (status : Status) (text : List ℕ) (opening : Opening NetLists) →
    Reads old mid name most_file_bytes reply → ReadsAll mid new files replies → OpensNet reply opening →
    SaysOpening goes_on opening replies status text → ((net : NetLists) → goes_on net replies status text → Way mid new files status text) →
    Way old new ((NetFile, name) ∷ files) status text
net_way_reply old mid new name files goes_on (Ok bytes) replies status text opening read rest opens h way =
    net_way_bytes old mid new name bytes files goes_on replies status text (document bytes) opening read rest refl opens h way
net_way_reply old mid new name files goes_on (Err TooLarge) replies status text opening read rest opens h way =
    let said = said_of_refused goes_on opening replies status _ text _ opens h in
    let last = ends_here old mid new name (Err TooLarge) (none_left mid new files replies said.0 rest) read in
    inl (Overlong said.1 said.2 last.answer.0 last.answer.1)
net_way_reply old mid new name files goes_on (Err Failed) replies status text opening read rest opens h way =
    let said = said_of_refused goes_on opening replies status _ text _ opens h in
    let last = ends_here old mid new name (Err Failed) (none_left mid new files replies said.0 rest) read in
    inl (Unread said.1 said.2 last.answer.0 last.answer.1)
net_way_reply old mid new name files goes_on (Err OutOfMemory) replies status text opening read rest opens h way = absurd opens

-- an answer by a net file and what goes on with its net
pub net_way : (old new : ShelfState) (name : List ℕ) (files : List (Which × List ℕ))
    (goes_on : NetLists → List (Result (List ℕ) ShelfFault) → Status → List ℕ → Type 0) (replies : List (Result (List ℕ) ShelfFault))
    (status : Status) (text : List ℕ) → ReadsAll old new ((NetFile, name) ∷ files) replies → SaysFile OpensNet goes_on replies status text →
    ((net : NetLists) (mid : ShelfState) (more : List (Result (List ℕ) ShelfFault)) → ReadsAll mid new files more → goes_on net more status text → Way mid new files status text) →
    Way old new ((NetFile, name) ∷ files) status text
net_way old new name files goes_on [] status text reads h way = absurd h
net_way old new name files goes_on (reply ∷ replies) status text reads h way =
    net_way_reply old reads.0 new name files goes_on reply replies status text h.0 reads.1 reads.3 h.1 h.2 (λ net k. way net reads.0 replies reads.3 k)

-- ---- a second file, after which nothing is read

bytes_way_reply : (old mid new : ShelfState) (which : Which) (name : List ℕ) (accepts : (bytes : List ℕ) → Accepts which bytes)
    (goes_on : List ℕ → List (Result (List ℕ) ShelfFault) → Status → List ℕ → Type 0) (reply : Result (List ℕ) ShelfFault)
    (replies : List (Result (List ℕ) ShelfFault)) (status : Status) (text : List ℕ) (opening : Opening (List ℕ)) →
    Reads old mid name most_file_bytes reply → ReadsAll mid new [] replies → OpensBytes which reply opening →
    SaysOpening goes_on opening replies status text → ((bytes : List ℕ) → goes_on bytes replies status text → Way mid new [] status text) →
    Way old new ((which, name) ∷ []) status text
bytes_way_reply old mid new which name accepts goes_on (Ok bytes) replies status text opening read rest opens h way =
    let said = subst (λ (o : Opening (List ℕ)). SaysOpening goes_on o replies status text) opens h in
    inr (mid, record { bytes = bytes; read = read; accepts = accepts bytes }, way bytes said)
bytes_way_reply old mid new which name accepts goes_on (Err TooLarge) replies status text opening read rest opens h way =
    let said = said_of_refused goes_on opening replies status _ text _ opens h in
    let last = ends_here old mid new name (Err TooLarge) (none_left mid new [] replies said.0 rest) read in
    inl (Overlong said.1 said.2 last.answer.0 last.answer.1)
bytes_way_reply old mid new which name accepts goes_on (Err Failed) replies status text opening read rest opens h way =
    let said = said_of_refused goes_on opening replies status _ text _ opens h in
    let last = ends_here old mid new name (Err Failed) (none_left mid new [] replies said.0 rest) read in
    inl (Unread said.1 said.2 last.answer.0 last.answer.1)
bytes_way_reply old mid new which name accepts goes_on (Err OutOfMemory) replies status text opening read rest opens h way = absurd opens

-- an answer by a second file and what goes on with its bytes
pub bytes_way : (old new : ShelfState) (which : Which) (name : List ℕ) → ((bytes : List ℕ) → Accepts which bytes) →
    (goes_on : List ℕ → List (Result (List ℕ) ShelfFault) → Status → List ℕ → Type 0) (replies : List (Result (List ℕ) ShelfFault))
    (status : Status) (text : List ℕ) → ReadsAll old new ((which, name) ∷ []) replies → SaysFile (OpensBytes which) goes_on replies status text →
    ((bytes : List ℕ) (mid : ShelfState) (more : List (Result (List ℕ) ShelfFault)) → goes_on bytes more status text → Way mid new [] status text) →
    Way old new ((which, name) ∷ []) status text
bytes_way old new which name accepts goes_on [] status text reads h way = absurd h
bytes_way old new which name accepts goes_on (reply ∷ replies) status text reads h way =
    bytes_way_reply old reads.0 new which name accepts goes_on reply replies status text h.0 reads.1 reads.3 h.1 h.2 (λ bytes k. way bytes reads.0 replies k)

-- the bytes of a second file are accepted as they are
second_accepts : (command : FileCommand) (bytes : List ℕ) → Accepts (second_of command) bytes
second_accepts JitNet bytes = tt
second_accepts ReplayNet bytes = tt
second_accepts ForeverNet bytes = tt
second_accepts (TimetableNet period limit) bytes = tt

-- what a command comes to has its own status
pub outcome_way : (old new : ShelfState) (says : Verdict → List ℕ → Type 0) (replies : List (Result (List ℕ) ShelfFault)) (status : Status) (text : List ℕ) →
    SaysOutcome says replies status text → Way old new [] status text
outcome_way old new says replies status text h = subst IsGiven (sym h.1.1) (verdict_is_own h.1.0)

-- each answer to a request comes in one of its ways
pub way_of : (request : Request) (lines : List Firing → List (List ℕ)) (old new : ShelfState) (replies : List (Result (List ℕ) ShelfFault))
    (status : Status) (text : List ℕ) → ReadsAll old new (files_of request) replies → Says request lines replies status text →
    Way old new (files_of request) status text
way_of (OfNet command name) lines old new replies status text reads h =
    net_way old new name [] (λ net. SaysOutcome (SaysNet command net)) replies status text reads h
    (λ net mid more rest k. outcome_way mid new (SaysNet command net) more status text k)
way_of (OfFiles command name second) lines old new replies status text reads h =
    net_way old new name ((second_of command, second) ∷ []) (SaysSecond command lines) replies status text reads h
    (λ net mid more rest k. bytes_way mid new (second_of command) second (second_accepts command) (λ bytes. SaysOutcome (SaysFiles command lines net bytes)) more status text rest k
    (λ bytes last further said. outcome_way last new (SaysFiles command lines net bytes) further status text said))
way_of (ValueOf text) lines old new replies status told reads h = outcome_way old new (SaysCalc text) replies status told h
way_of (TrialOf machines) lines old new replies status told reads h = outcome_way old new (SaysTrial machines) replies status told h
