-- The promises of the whole call, from how it runs.
use Rattle.std.proofs.Common.{◌≡◌, ◌≢◌, ℕ, ◌⊎◌, ⊎_elim, inl, inr, List, [], ◌∷◌, ◌++◌, Option, Some, None, refl, sym, subst, ◌∙◌}
use Rattle.std.proofs.lemmas.List.{append_cancel_left}
use Rattle.teg_net.specs.Nets.{NetLists}
use Rattle.teg_outside.specs.Causes.{Rose}
use Rattle.teg_outside.specs.Sinks.{BytesGrow}
use Rattle.teg_outside.specs.Shelves.{ShelfState}
use Rattle.teg_outside.specs.declared.shelf.ShelfFault.{ShelfFault}
use Rattle.teg_files.specs.Reads.{ReadsAll}
use Rattle.std.specs.Prelude.{Result}
use Rattle.teg_outside.proofs.Counts.{rose_not_rested}
use Rattle.teg_report.specs.declared.answer.Which.{Which}
use Rattle.teg_files.specs.declared.status.Status.{Status}
use Rattle.teg_files.specs.declared.status.Status.TheVariants.{Words, Text, Net, ReadFault, WriteFault, NoMemory}
use Rattle.teg_outcome.specs.declared.outcome.Verdict.{Verdict}
use Rattle.teg_run.specs.Calls.{Call}
use Rattle.teg_files.specs.Endings.{Ending, Whole, Lost}
use Rattle.teg_run.specs.Headline.{Ends, EndsLost, IsSaidOf, OwnOnly, EndsWithFault, ComesOnly, CountsAsNoText, ReadsAreCalm, WritesAreCalm}
use Rattle.teg_run.specs.Headline.{OverlongRose, WroteWhole, WrotePrefix, ReadsFirstOf, NamesLastRead, EndsAsSaid, Concerns, ConcernsBoth, SaysOfNet}
use Rattle.teg_run.specs.Headline.{SaysOfBoth, SaysOfWords, KeepsPromises}
use Rattle.teg_request.specs.declared.request.NetCommand.{NetCommand}
use Rattle.teg_request.specs.declared.request.FileCommand.{FileCommand}
use Rattle.teg_request.specs.declared.request.Request.{Request}
use Rattle.teg_request.specs.declared.request.Request.TheVariants.{OfNet, OfFiles, ValueOf, TrialOf}
use Rattle.teg_request.specs.Requests.{request_of, files_of, asked_files, second_of}
use Rattle.teg_run.specs.WholeCalls.{Answered, CarriesOut, Runs}
use Rattle.teg_files.specs.Finishing.{Finished}
use Rattle.teg_run.specs.Says.{Asked, Says, SaysFiles, SaysNet, SaysOutcome, SaysSecond}
use Rattle.teg_files.specs.Statuses.{status_of}
use Rattle.teg_run.proofs.Verdicts.{IsGiven, given_of_own}
use Rattle.teg_files.specs.RefusalTexts.{usage, too_large_text}
use Rattle.teg_run.proofs.Causes.{said_of}
use Rattle.teg_run.proofs.Faults.{IsFaultOf, text_is_fault, net_is_fault, comes_only, counted_only, follows, way_is_said, overlong_way, fault_way}
use Rattle.teg_run.proofs.LiveNets.{live_goes_on, held_goes_on}
use Rattle.teg_run.proofs.ReadOrder.{none_read, reads_first}
use Rattle.teg_run.proofs.SecondReads.{second_only_of_live}
use Rattle.teg_run.proofs.Ways.{Way, way_of}

-- ---- how a call ended that asks for this

-- its answer came in one of the ways and was written, or memory ran out
abbrev Ended : Request → Call → Type 0
Ended request call =
    ((said : Status) × (text : List ℕ) × Way call.shelf_before call.shelf_after (files_of request) said text
    × Finished call.sink_before call.sink_after (Whole said text) call.status)
    ⊎ EndsLost call

ended_with : (request : Request) (call : Call) (ending : Ending) →
    Answered (Asked (Some request) call.lines) (files_of request) call.shelf_before call.shelf_after ending →
    Finished call.sink_before call.sink_after ending call.status → Ended request call
ended_with request call Lost h k = inr k
ended_with request call (Whole said text) h k =
    inl (said, text, way_of request call.lines call.shelf_before call.shelf_after h.0 said text h.1 h.2, k)

ended : (request : Request) (call : Call) → Runs call → request_of call.words ≡ Some request → Ended request call
ended request call runs asks =
    let h = subst (λ (asked : Option Request). CarriesOut asked call) asks runs in ended_with request call h.0 h.1 h.2

-- a text of another status than a write fault was written whole
whole_of : (call : Call) (said : Status) (text : List ℕ) → call.status ≢ WriteFault → Finished call.sink_before call.sink_after (Whole said text) call.status →
    (call.status ≡ said) × (call.sink_after.faults ≡ call.sink_before.faults) × BytesGrow call.sink_before.bytes call.sink_after.bytes text
whole_of call said text other h = ⊎_elim (λ (whole : _). whole) (λ (cut : _). absurd (other cut.0)) h

-- ---- words that are refused

refused_with : (call : Call) (ending : Ending) → Answered (Asked None call.lines) [] call.shelf_before call.shelf_after ending →
    Finished call.sink_before call.sink_after ending call.status → (call.shelf_after ≡ call.shelf_before) × Ends call Words usage
refused_with call Lost h k = (none_read call.shelf_before call.shelf_after h.0 h.1, inr k)
refused_with call (Whole said text) h k = (
  none_read call.shelf_before call.shelf_after h.0 h.1,
  inl (subst (λ (s : Status). Finished call.sink_before call.sink_after (Whole s usage) call.status) h.2.1.0
      (subst (λ (l : List ℕ). Finished call.sink_before call.sink_after (Whole said l) call.status) h.2.1.1 k)),
)

words_refused : (call : Call) → Runs call → request_of call.words ≡ None → (call.shelf_after ≡ call.shelf_before) × Ends call Words usage
words_refused call runs asks =
    let h = subst (λ (asked : Option Request). CarriesOut asked call) asks runs in refused_with call h.0 h.1 h.2

words_only_for : (asked : Option Request) (call : Call) → Runs call → request_of call.words ≡ asked → call.status ≡ Words → request_of call.words ≡ None
words_only_for None call runs asks e = asks
words_only_for (Some request) call runs asks e =
    absurd (⊎_elim
    (λ (said : _). let whole = whole_of call said.0 said.1 (λ f. cc) said.3 in
    (way_is_said call.shelf_before call.shelf_after (files_of request) said.0 said.1 said.2).no_words (sym whole.0 ∙ e))
    (λ (lost : _). let bad : ⊥ = cc (lost.0, e) in bad) (ended request call runs asks))

-- ---- causes

-- a status of a file leads back to the request and to a way
came_for : (asked : Option Request) (call : Call) → call.status ≢ Words → call.status ≢ WriteFault → call.status ≢ NoMemory → Runs call →
    request_of call.words ≡ asked →
    (request : Request) × (text : List ℕ) × (request_of call.words ≡ Some request)
    × Way call.shelf_before call.shelf_after (files_of request) call.status text × BytesGrow call.sink_before.bytes call.sink_after.bytes text
came_for None call wordless other memory runs asks =
    let refused = words_refused call runs asks in
    absurd (⊎_elim (λ (said : _). wordless (whole_of call Words usage other said).0) (λ (lost : _). memory lost.0) refused.1)
came_for (Some request) call wordless other memory runs asks =
    ⊎_elim
    (λ (said : _). let whole = whole_of call said.0 said.1 other said.3 in
    (request, said.1, asks, subst (λ (s : Status). Way call.shelf_before call.shelf_after (files_of request) s said.1) (sym whole.0) said.2, whole.2))
    (λ (lost : _). absurd (memory lost.0)) (ended request call runs asks)

-- the status of a fault of a file comes only from that fault
fault_only : (wanted : Status) (fault : List (List ℕ × List ℕ) → Which → List ℕ → List ℕ → Type 0) → IsFaultOf wanted fault →
    wanted ≢ Words → wanted ≢ WriteFault → wanted ≢ NoMemory → (call : Call) → (call.status ≡ Text → ReadsAreCalm call) → Runs call → ComesOnly fault wanted call
fault_only wanted fault is wordless other memory call calm runs files told e =
    let came = came_for (request_of call.words) call (λ w. wordless (sym e ∙ w)) (λ w. other (sym e ∙ w)) (λ w. memory (sym e ∙ w)) runs refl in (
      came.0,
      came.1,
      came.2,
      comes_only wanted fault is files call.shelf_before call.shelf_after (files_of came.0) call.status came.1 told calm e came.3,
      came.4,
    )

-- a fault of a file leads to its status
fault_follows : (wanted : Status) (fault : List (List ℕ × List ℕ) → Which → List ℕ → List ℕ → Type 0) → IsFaultOf wanted fault →
    (call : Call) → Runs call → EndsWithFault fault wanted call
fault_follows wanted fault is call runs files request told calm asks cause =
    ⊎_elim
    (λ (said : _). let way = follows wanted fault is files call.shelf_before call.shelf_after (files_of request) said.0 said.1 cause.0 told calm cause.1 said.2 in
    (said.1, way.1, inl (subst (λ (s : Status). Finished call.sink_before call.sink_after (Whole s said.1) call.status) way.0 said.3)))
    (λ (lost : _). (cause.0, cause.1, inr lost)) (ended request call runs asks)

-- Text comes only from a file that is no text, or counted as too long
text_counted : (call : Call) → Runs call → ComesOnly (CountsAsNoText call) Text call
text_counted call runs files told e =
    let came = came_for (request_of call.words) call (λ w. cc) (λ w. cc) (λ w. cc) runs refl in (
      came.0,
      came.1,
      came.2,
      counted_only files call call.shelf_before call.shelf_after (files_of came.0) call.status came.1 told (λ rose. rose) e came.3,
      came.4,
    )

-- what was appended is what grew
appended : (old new : Option (List ℕ)) (bytes text more : List ℕ) → old ≡ Some bytes → new ≡ Some (bytes ++ more) → BytesGrow old new text → text ≡ more
appended old new bytes text more o n h =
    let k = subst (λ (b : Option (List ℕ)). BytesGrow b new text) o h in
    let same : bytes ++ text ≡ bytes ++ more = cc in append_cancel_left bytes text more same

overlong_rose : (call : Call) → Runs call → call.status ≡ Text → OverlongRose call
overlong_rose call runs e which bytes old new =
    let came = came_for (request_of call.words) call (λ w. cc) (λ w. cc) (λ w. cc) runs refl in
    let text_is = appended call.sink_before.bytes call.sink_after.bytes bytes came.1 (too_large_text which) old new came.4 in
    overlong_way which call.shelf_before call.shelf_after (files_of came.0) call.status came.1 e text_is came.3

fault_rose : (call : Call) → Runs call → call.status ≡ ReadFault → Rose call.shelf_before.faults call.shelf_after.faults
fault_rose call runs e =
    let came = came_for (request_of call.words) call (λ w. cc) (λ w. cc) (λ w. cc) runs refl in
    (fault_way call.shelf_before call.shelf_after (files_of came.0) call.status came.1 e came.3).0

fault_named_by : (call : Call) (request : Request) (text : List ℕ) → call.status ≡ ReadFault → request_of call.words ≡ Some request →
    Way call.shelf_before call.shelf_after (files_of request) call.status text → BytesGrow call.sink_before.bytes call.sink_after.bytes text →
    NamesLastRead call (asked_files (request_of call.words))
fault_named_by call request text e asks way grew =
    let fault = (fault_way call.shelf_before call.shelf_after (files_of request) call.status text e way).1 in
    subst (λ (asked : Option Request). NamesLastRead call (asked_files asked)) (sym asks)
    (fault.0, fault.1, fault.2, fault.3, fault.4, subst (λ (l : List ℕ). BytesGrow call.sink_before.bytes call.sink_after.bytes l) fault.5 grew)

fault_named : (call : Call) → Runs call → call.status ≡ ReadFault → NamesLastRead call (asked_files (request_of call.words))
fault_named call runs e =
    let came = came_for (request_of call.words) call (λ w. cc) (λ w. cc) (λ w. cc) runs refl in
    fault_named_by call came.0 came.1 e came.2 came.3 came.4

-- ---- commands on a live net

net_said : (call : Call) (command : NetCommand) (net : NetLists) (asks : Concerns call command net) (ending : Ending) →
    Answered (Asked (Some (OfNet command asks.name)) call.lines) (files_of (OfNet command asks.name)) call.shelf_before call.shelf_after ending →
    Finished call.sink_before call.sink_after ending call.status →
    ((verdict : Verdict) × (text : List ℕ) × SaysNet command net verdict text × Ends call (status_of verdict) text) ⊎ EndsLost call
net_said call command net asks Lost h k = inr k
net_said call command net asks (Whole said text) h k =
    let on = live_goes_on asks.files call.shelf_before call.shelf_after asks.name [] net (λ n. SaysOutcome (SaysNet command n)) h.0 said text
    asks.told asks.calm asks.opens h.1 h.2 in
    inl (on.5.1.0, text, on.5.1.2, inl (subst (λ (s : Status). Finished call.sink_before call.sink_after (Whole s text) call.status) on.5.1.1 k))

says_of_net : (call : Call) → Runs call → SaysOfNet call
says_of_net call runs command net asks =
    let h = subst (λ (asked : Option Request). CarriesOut asked call) asks.asks runs in net_said call command net asks h.0 h.1 h.2

-- ---- commands on a live net and a second file

both_said : (call : Call) (command : FileCommand) (net : NetLists) (bytes : List ℕ) (asks : ConcernsBoth call command net bytes) (ending : Ending) →
    Answered (Asked (Some (OfFiles command asks.name asks.second)) call.lines) (files_of (OfFiles command asks.name asks.second)) call.shelf_before call.shelf_after ending →
    Finished call.sink_before call.sink_after ending call.status →
    ((verdict : Verdict) × (text : List ℕ) × SaysFiles command call.lines net bytes verdict text × Ends call (status_of verdict) text) ⊎ EndsLost call
both_said call command net bytes asks Lost h k = inr k
both_said call command net bytes asks (Whole said text) h k =
    let on = live_goes_on asks.files call.shelf_before call.shelf_after asks.name ((second_of command, asks.second) ∷ []) net
    (SaysSecond command call.lines) h.0 said text asks.told asks.calm asks.opens h.1 h.2 in
    let then = held_goes_on asks.files on.0 call.shelf_after (second_of command) asks.second bytes (λ b. SaysOutcome (SaysFiles command call.lines net b)) on.1 said text
    on.2 on.3 asks.holds on.4 on.5 in
    inl (then.1.1.0, text, then.1.1.2, inl (subst (λ (s : Status). Finished call.sink_before call.sink_after (Whole s text) call.status) then.1.1.1 k))

says_of_both : (call : Call) → Runs call → SaysOfBoth call
says_of_both call runs command net bytes asks =
    let h = subst (λ (asked : Option Request). CarriesOut asked call) asks.asks runs in both_said call command net bytes asks h.0 h.1 h.2

-- ---- requests without a file

no_replies : (old new : ShelfState) (replies : List (Result (List ℕ) ShelfFault)) → ReadsAll old new [] replies → replies ≡ []
no_replies old new [] h = refl
no_replies old new (reply ∷ replies) h = absurd h

words_said : (call : Call) (request : Request) (ending : Ending) → files_of request ≡ [] →
    Answered (Says request call.lines) (files_of request) call.shelf_before call.shelf_after ending →
    Finished call.sink_before call.sink_after ending call.status →
    ((status : Status) × (text : List ℕ) × Says request call.lines [] status text × Ends call status text) ⊎ EndsLost call
words_said call request Lost none h k = inr k
words_said call request (Whole said text) none h k =
    let empty = no_replies call.shelf_before call.shelf_after h.0 (subst (λ (l : List (Which × List ℕ)). ReadsAll call.shelf_before call.shelf_after l h.0) none h.1) in
    inl (said, text, subst (λ (r : List (Result (List ℕ) ShelfFault)). Says request call.lines r said text) empty h.2, inl k)

says_of_words : (call : Call) → Runs call → SaysOfWords call
says_of_words call runs request asks none =
    let h = subst (λ (asked : Option Request). CarriesOut asked call) asks runs in words_said call request h.0 none h.1 h.2

-- ---- accepted files

-- an ending without a fault of the sink
ended_as : (call : Call) (says : Status → List ℕ → Type 0) → WritesAreCalm call →
    ((status : Status) × (text : List ℕ) × says status text × Ends call status text) ⊎ EndsLost call →
    (call.status ≡ NoMemory) ⊎ ((text : List ℕ) × says call.status text)
ended_as call says writes h =
    ⊎_elim
    (λ (said : _). ⊎_elim
    (λ (finished : _). ⊎_elim (λ (whole : _). inr (said.1, subst (λ (s : Status). says s said.1) (sym whole.0) said.2))
    (λ (cut : _). absurd (rose_not_rested call.sink_before.faults call.sink_after.faults cut.1 writes)) finished)
    (λ (lost : _). inl lost.0) said.3)
    (λ (lost : _). inl lost.0) h

ends_as_said : (call : Call) → Runs call → EndsAsSaid call
ends_as_said call runs files (OfNet command name) asks told reads writes accepts =
    ended_as call (IsSaidOf files call.lines (OfNet command name)) writes
    (⊎_elim (λ (said : _). inl (status_of said.0, said.1, (accepts.0, accepts.1, (said.0, refl, said.2)), said.3)) (λ (lost : _). inr lost)
    (says_of_net call runs command accepts.0 (record { name = name; files = files; asks = asks; told = told; calm = reads; opens = accepts.1 })))
ends_as_said call runs files (OfFiles command name second) asks told reads writes accepts =
    ended_as call (IsSaidOf files call.lines (OfFiles command name second)) writes
    (⊎_elim (λ (said : _). inl (status_of said.0, said.1, (accepts.0.0, accepts.1.0, accepts.0.1, accepts.1.1, (said.0, refl, said.2)), said.3)) (λ (lost : _). inr lost)
    (says_of_both call runs command accepts.0.0 accepts.1.0 (record { name = name; second = second; files = files; asks = asks; told = told; calm = reads; opens = accepts.0.1; holds = accepts.1.1 })))
ends_as_said call runs files (ValueOf text) asks told reads writes accepts =
    ended_as call (IsSaidOf files call.lines (ValueOf text)) writes
    (⊎_elim (λ (said : _). inl (said.0, said.1, said.2.1, said.3)) (λ (lost : _). inr lost) (says_of_words call runs (ValueOf text) asks refl))
ends_as_said call runs files (TrialOf machines) asks told reads writes accepts =
    ended_as call (IsSaidOf files call.lines (TrialOf machines)) writes
    (⊎_elim (λ (said : _). inl (said.0, said.1, said.2.1, said.3)) (λ (lost : _). inr lost) (says_of_words call runs (TrialOf machines) asks refl))

-- ---- what was written and read

wrote_whole : (call : Call) (ending : Ending) → call.status ≢ WriteFault → call.status ≢ NoMemory →
    Answered (Asked (request_of call.words) call.lines) (asked_files (request_of call.words)) call.shelf_before call.shelf_after ending →
    Finished call.sink_before call.sink_after ending call.status → WroteWhole call
wrote_whole call Lost other memory h k = absurd (memory k.0)
wrote_whole call (Whole said text) other memory h k =
    let whole = whole_of call said text other k in
    (text, (h.0, h.1, subst (λ (s : Status). Asked (request_of call.words) call.lines h.0 s text) (sym whole.0) h.2), whole.1, whole.2)

-- what is asked never ends with a fault of the sink or for want of memory
pub asked_is_said : (asked : Option Request) (call : Call) (said : Status) (text : List ℕ) →
    Answered (Asked asked call.lines) (asked_files asked) call.shelf_before call.shelf_after (Whole said text) → (said ≢ WriteFault) × (said ≢ NoMemory)
asked_is_said None call said text h = let is = h.2.1.0 in (λ e. cc, λ e. cc)
asked_is_said (Some request) call said text h =
    let is = way_is_said call.shelf_before call.shelf_after (files_of request) said text
    (way_of request call.lines call.shelf_before call.shelf_after h.0 said text h.1 h.2) in (is.no_write_fault, is.no_memory)

cut_off_with : (call : Call) (ending : Ending) → call.status ≡ WriteFault →
    Answered (Asked (request_of call.words) call.lines) (asked_files (request_of call.words)) call.shelf_before call.shelf_after ending →
    Finished call.sink_before call.sink_after ending call.status → Rose call.sink_before.faults call.sink_after.faults × WrotePrefix call
cut_off_with call Lost e h k = absurd (let lost = k.0 in let bad : ⊥ = cc in bad)
cut_off_with call (Whole said text) e h k =
    ⊎_elim (λ (whole : _). absurd ((asked_is_said (request_of call.words) call said text h).0 (sym whole.0 ∙ e)))
    (λ (cut : _). (cut.1, (said, text, (h.0, h.1, h.2), cut.2))) k

unwritten_with : (call : Call) (ending : Ending) → call.status ≡ NoMemory →
    Answered (Asked (request_of call.words) call.lines) (asked_files (request_of call.words)) call.shelf_before call.shelf_after ending →
    Finished call.sink_before call.sink_after ending call.status → call.sink_after ≡ call.sink_before
unwritten_with call Lost e h k = k.1
unwritten_with call (Whole said text) e h k =
    ⊎_elim (λ (whole : _). absurd ((asked_is_said (request_of call.words) call said text h).1 (sym whole.0 ∙ e)))
    (λ (cut : _). let bad : ⊥ = cc (cut.0, e) in absurd bad) k

read_in_order : (call : Call) (ending : Ending) →
    Answered (Asked (request_of call.words) call.lines) (asked_files (request_of call.words)) call.shelf_before call.shelf_after ending →
    ReadsFirstOf call.shelf_before call.shelf_after (asked_files (request_of call.words))
read_in_order call Lost h = reads_first call.shelf_before call.shelf_after (asked_files (request_of call.words)) h.0 h.1
read_in_order call (Whole said text) h = reads_first call.shelf_before call.shelf_after (asked_files (request_of call.words)) h.0 h.1

-- ---- statuses of commands

own_with : (asked : Option Request) (call : Call) (files : List (List ℕ × List ℕ)) (ending : Ending) → request_of call.words ≡ asked → call.shelf_before.files ≡ Some files → IsGiven call.status →
    Answered (Asked asked call.lines) (asked_files asked) call.shelf_before call.shelf_after ending → Finished call.sink_before call.sink_after ending call.status →
    (request : Request) × (text : List ℕ) × (request_of call.words ≡ Some request) × IsSaidOf files call.lines request call.status text
    × BytesGrow call.sink_before.bytes call.sink_after.bytes text
own_with asked call files Lost asks told own h k = absurd (subst IsGiven k.0 own)
own_with None call files (Whole said text) asks told own h k =
    ⊎_elim (λ (whole : _). absurd (subst IsGiven (whole.0 ∙ h.2.1.0) own)) (λ (cut : _). absurd (subst IsGiven cut.0 own)) k
own_with (Some request) call files (Whole said text) asks told own h k =
    ⊎_elim
    (λ (whole : _). let is = subst (λ (s : Status). IsSaidOf files call.lines request s text) (sym whole.0)
    (said_of files request call.lines call.shelf_before call.shelf_after h.0 said text told (subst IsGiven whole.0 own) h.1 h.2) in
    (request, text, asks, is, whole.2))
    (λ (cut : _). absurd (subst IsGiven cut.0 own)) k

own_only : (call : Call) → Runs call → OwnOnly call
own_only call runs files told own = own_with (request_of call.words) call files runs.0 refl told (given_of_own call.status own) runs.1 runs.2

-- ---- all of them

pub keeps_promises : (call : Call) → Runs call → KeepsPromises call
keeps_promises call runs =
    record {
      words = words_refused call runs;
      words_only = words_only_for (request_of call.words) call runs refl;
      text = fault_follows Text _ text_is_fault call runs;
      text_only = λ calm. fault_only Text _ text_is_fault (λ e. cc) (λ e. cc) (λ e. cc) call (λ e. calm) runs;
      text_counted = text_counted call runs;
      overlong = overlong_rose call runs;
      net = fault_follows Net _ net_is_fault call runs;
      net_only = λ files told e. fault_only Net _ net_is_fault (λ w. cc) (λ w. cc) (λ w. cc) call (λ t. absurd (let bad : ⊥ = cc (t, e) in bad)) runs files told e;
      own_only = own_only call runs;
      of_net = says_of_net call runs;
      of_both = says_of_both call runs;
      of_words = says_of_words call runs;
      written = λ other memory. wrote_whole call runs.0 other memory runs.1 runs.2;
      cut_off = λ e. (cut_off_with call runs.0 e runs.1 runs.2).1;
      unwritten = λ e. unwritten_with call runs.0 e runs.1 runs.2;
      reads = read_in_order call runs.0 runs.1;
      second_read = second_only_of_live call runs;
      read_fault = fault_rose call runs;
      fault_named = fault_named call runs;
      write_fault = λ e. (cut_off_with call runs.0 e runs.1 runs.2).0;
      complete = ends_as_said call runs;
    }

-- a call that found no memory before it began: nothing was read, and nothing written
pub lost_runs : (call : Call) → call.shelf_after ≡ call.shelf_before → call.sink_after ≡ call.sink_before → call.status ≡ NoMemory → Runs call
lost_runs call unread unwritten status = (Lost, ([], unread), (status, unwritten))
