-- What the monitors of a call were shown, by its words, its status and the files that are told.
use Rattle.std.proofs.Common.{◌≡◌, ◌≢◌, ℕ, Bool, true, false, ◌⊎◌, ⊎_elim, inl, inr, List, [], ◌∷◌, Option, Some, None, Result, Ok, Err, refl, sym, subst, ap, ◌∙◌}
use Rattle.teg_net.specs.Nets.{NetLists}
use Rattle.teg_outside.specs.declared.monitor.Firing.{Firing}
use Rattle.teg_outside.specs.declared.shelf.ShelfFault.{ShelfFault}
use Rattle.teg_outside.specs.declared.shelf.ShelfFault.TheVariants.{Failed, TooLarge, OutOfMemory}
use Rattle.teg_outside.specs.Causes.{Rested}
use Rattle.teg_outside.specs.Shelves.{ShelfState, Reads}
use Rattle.teg_outside.proofs.Counts.{rose_not_rested, rested_then}
use Rattle.teg_report.specs.csv_records.Records.{most_file_bytes}
use Rattle.teg_outcome.specs.declared.outcome.Verdict.{Verdict}
use Rattle.teg_plan_commands.specs.Replay.{ShowsNothing, ShowsReplay}
use Rattle.teg_plan_commands.proofs.Replayed.{replay_unshown}
use Rattle.teg_report.specs.declared.answer.Which.{Which}
use Rattle.teg_report.specs.declared.answer.Which.TheVariants.{Log as LogFile, Net as NetFile}
use Rattle.teg_request.specs.declared.request.FileCommand.{FileCommand}
use Rattle.teg_request.specs.declared.request.FileCommand.TheVariants.{Jit as JitNet, Replay as ReplayNet, Forever as ForeverNet, Timetable as TimetableNet}
use Rattle.teg_request.specs.declared.request.Request.{Request}
use Rattle.teg_request.specs.declared.request.Request.TheVariants.{OfNet, OfFiles, ValueOf, TrialOf}
use Rattle.teg_files.specs.declared.status.Status.{Status}
use Rattle.teg_files.specs.declared.status.Status.TheVariants.{NoMemory, WriteFault}
use Rattle.teg_run.specs.Calls.{Call}
use Rattle.teg_files.specs.Endings.{Ending, Whole, Lost}
use Rattle.teg_run.specs.Headline.{AcceptsFiles, ConcernsBoth, Holds, Opens}
use Rattle.teg_files.specs.Openings.{Opening, Accepted, Refused, OpensBytes, OpensNet}
use Rattle.teg_files.specs.Reads.{ReadsAll}
use Rattle.teg_request.specs.Requests.{asked_files, request_of, second_of}
use Rattle.teg_files.specs.Finishing.{Finished}
use Rattle.teg_run.specs.Says.{Asked, SaysFile, SaysFiles, SaysOpening, SaysOutcome, SaysSecond}
use Rattle.teg_run.specs.ShownFirings.{AnsweredAndShown, ShowsAsked, ShowsBoth, ShowsFiles, ShowsFor, ShowsJust, ShowsSecond, ShowsTold}
use Rattle.teg_run.proofs.Causes.{net_opened}
use Rattle.teg_run.proofs.LiveNets.{live_reply}
use Rattle.teg_run.proofs.Promises.{asked_is_said}
use Rattle.teg_run.proofs.ReadOrder.{none_read}
use Rattle.teg_run.proofs.Refusals.{told_file, told_long, not_long, same_document}
use Rattle.teg_run.proofs.Verdicts.{IsGiven, own_of_given, verdict_is_own}

-- what monitors would print by further firings
abbrev Lines : Type 0
Lines = List Firing → List (List ℕ)

abbrev Reply : Type 0
Reply = Result (List ℕ) ShelfFault

-- ---- words that ask for no replay

-- a command of which nothing is shown, whatever its files hold
abbrev IsQuiet : FileCommand → Type 0
IsQuiet command = (net : NetLists) (bytes : List ℕ) (before now : Lines) (is_told : Bool) → ShowsFiles command net bytes before now is_told → ShowsNothing before now

second_quiet : (command : FileCommand) → IsQuiet command → (net : NetLists) (before now : Lines) (replies : List Reply) (is_told : Bool) →
    ShowsSecond command net before now replies is_told → ShowsNothing before now
second_quiet command quiet net before now [] is_told h = h
second_quiet command quiet net before now (Ok bytes ∷ []) is_told h = quiet net bytes before now is_told h
second_quiet command quiet net before now (Ok bytes ∷ next ∷ replies) is_told h = h
second_quiet command quiet net before now (Err fault ∷ replies) is_told h = h

both_quiet : (command : FileCommand) → IsQuiet command → (before now : Lines) (replies : List Reply) (is_told : Bool) →
    ShowsBoth command before now replies is_told → ShowsNothing before now
both_quiet command quiet before now [] is_told h = h
both_quiet command quiet before now (reply ∷ []) is_told h = h
both_quiet command quiet before now (reply ∷ second ∷ replies) is_told h = second_quiet command quiet h.0 before now (second ∷ replies) is_told h.2

others_show : (asked : Option Request) → ((name log : List ℕ) → asked ≢ Some (OfFiles ReplayNet name log)) →
    (before now : Lines) (replies : List Reply) (is_told : Bool) → ShowsAsked asked before now replies is_told → ShowsNothing before now
others_show None other before now replies is_told h = h
others_show (Some (OfNet command net)) other before now replies is_told h = h
others_show (Some (OfFiles JitNet net second)) other before now replies is_told h = both_quiet JitNet (λ n b x y t k. k) before now replies is_told h
others_show (Some (OfFiles ReplayNet net second)) other before now replies is_told h = absurd (other net second refl)
others_show (Some (OfFiles ForeverNet net second)) other before now replies is_told h = both_quiet ForeverNet (λ n b x y t k. k) before now replies is_told h
others_show (Some (OfFiles (TimetableNet period limit) net second)) other before now replies is_told h =
    both_quiet (TimetableNet period limit) (λ n b x y t k. k) before now replies is_told h
others_show (Some (ValueOf text)) other before now replies is_told h = h
others_show (Some (TrialOf machines)) other before now replies is_told h = h

-- ---- statuses that no command gives

-- what is said of the bytes of a second file has a command's own status
own_of_bytes : (which : Which) (bytes : List ℕ) (opening : Opening (List ℕ)) (says : List ℕ → Verdict → List ℕ → Type 0) (status : Status) (text : List ℕ) →
    OpensBytes which (Ok bytes) opening → SaysOpening (λ b. SaysOutcome (says b)) opening [] status text → IsGiven status
own_of_bytes which bytes opening says status text is h =
    let said = subst (λ (o : Opening (List ℕ)). SaysOpening (λ b. SaysOutcome (says b)) o [] status text) is h in
    subst IsGiven (sym said.1.1) (verdict_is_own said.1.0)

own_of_both : (command : FileCommand) (lines : Lines) (bytes : List ℕ) (opening : Opening NetLists) (status : Status) (text : List ℕ) →
    SaysOpening (SaysSecond command lines) opening (Ok bytes ∷ []) status text → IsGiven status
own_of_both command lines bytes (Refused status' text') status text h = absurd (let none = h.0 in let bad : ⊥ = cc in bad)
own_of_both command lines bytes (Accepted file) status text h = own_of_bytes (second_of command) bytes h.0 (SaysFiles command lines file) status text h.1 h.2

fault_of_both : (command : FileCommand) (lines before now : Lines) (replies : List Reply) (status : Status) (text : List ℕ) → (IsGiven status → ⊥) →
    SaysFile OpensNet (SaysSecond command lines) replies status text →
    ShowsBoth command before now replies true → ShowsNothing before now
fault_of_both command lines before now [] status text other h k = k
fault_of_both command lines before now (reply ∷ []) status text other h k = k
fault_of_both command lines before now (reply ∷ Ok bytes ∷ []) status text other h k = absurd (other (own_of_both command lines bytes h.0 status text h.2))
fault_of_both command lines before now (reply ∷ Ok bytes ∷ next ∷ replies) status text other h k = k.2
fault_of_both command lines before now (reply ∷ Err fault ∷ replies) status text other h k = k.2

fault_shows : (asked : Option Request) (lines before now : Lines) (replies : List Reply) (status : Status) (text : List ℕ) → (IsGiven status → ⊥) →
    Asked asked lines replies status text → ShowsAsked asked before now replies true → ShowsNothing before now
fault_shows None lines before now replies status text other h k = k
fault_shows (Some (OfNet command net)) lines before now replies status text other h k = k
fault_shows (Some (OfFiles command net second)) lines before now replies status text other h k = fault_of_both command lines before now replies status text other h k
fault_shows (Some (ValueOf value)) lines before now replies status text other h k = k
fault_shows (Some (TrialOf machines)) lines before now replies status text other h k = k

-- ---- told files

-- a file says one net
same_net : (files : List (List ℕ × List ℕ)) (name : List ℕ) (a b : NetLists) → Opens files name a → Opens files name b → a ≡ b
same_net files name a b h k = let same = same_document files name h.0 k.0 (Ok b) h.1.0 k.1.0 k.2 in let is = h.2 in cc

-- a log that was read with its net: the net and the log are those of the told files
read_log : (files : List (List ℕ × List ℕ)) (old new : ShelfState) (name log : List ℕ) (reply : Reply) (bytes : List ℕ) (net : NetLists) → old.files ≡ Some files →
    ReadsAll old new ((NetFile, name) ∷ (LogFile, log) ∷ []) (reply ∷ Ok bytes ∷ []) → OpensNet reply (Accepted net) → Opens files name net × Holds files log bytes
read_log files old new name log reply bytes net told reads opens =
    let read = reads.3.1 in (
      net_opened files old reads.0 name reply net told reads.1 opens,
      (told_file files reads.0.files log bytes (reads.1.files ∙ told) read.answer.3, read.answer.2),
    )

-- nothing is shown where the told files are not accepted
refused_shows : (files : List (List ℕ × List ℕ)) (old new : ShelfState) (name log : List ℕ) (before now : Lines) (replies : List Reply) (is_told : Bool) →
    old.files ≡ Some files → (AcceptsFiles files (OfFiles ReplayNet name log) → ⊥) → ReadsAll old new ((NetFile, name) ∷ (LogFile, log) ∷ []) replies →
    ShowsBoth ReplayNet before now replies is_told → ShowsNothing before now
refused_shows files old new name log before now [] is_told told refused reads h = h
refused_shows files old new name log before now (reply ∷ []) is_told told refused reads h = h
refused_shows files old new name log before now (reply ∷ Ok bytes ∷ []) is_told told refused reads h =
    let read = read_log files old new name log reply bytes h.0 told reads h.1 in absurd (refused ((h.0, read.0), (bytes, read.1)))
refused_shows files old new name log before now (reply ∷ Ok bytes ∷ next ∷ replies) is_told told refused reads h = h.2
refused_shows files old new name log before now (reply ∷ Err fault ∷ replies) is_told told refused reads h = h.2

-- of a log that was read is shown what its bytes and the net tell
read_shows : (files : List (List ℕ × List ℕ)) (old new : ShelfState) (name log : List ℕ) (net : NetLists) (bytes : List ℕ) (before now : Lines) (reply : Reply) (given : List ℕ)
    (is_told : Bool) → old.files ≡ Some files → Opens files name net → Holds files log bytes → ReadsAll old new ((NetFile, name) ∷ (LogFile, log) ∷ []) (reply ∷ Ok given ∷ []) →
    ShowsBoth ReplayNet before now (reply ∷ Ok given ∷ []) is_told → ShowsReplay net bytes before now is_told
read_shows files old new name log net bytes before now reply given is_told told opens holds reads h =
    let read = read_log files old new name log reply given h.0 told reads h.1 in
    let same = same_net files name h.0 net read.0 opens in
    let there = read.1.0 in
    let held = holds.0 in
    let bytes_are : given ≡ bytes = cc in
    subst (λ (b : List ℕ). ShowsReplay net b before now is_told) bytes_are (subst (λ (n : NetLists). ShowsReplay n given before now is_told) same h.2)

-- where memory ran out, the firings of some first rows
lost_shows : (files : List (List ℕ × List ℕ)) (old new : ShelfState) (name log : List ℕ) (net : NetLists) (bytes : List ℕ) (before now : Lines) (replies : List Reply) →
    old.files ≡ Some files → Opens files name net → Holds files log bytes → ReadsAll old new ((NetFile, name) ∷ (LogFile, log) ∷ []) replies →
    ShowsBoth ReplayNet before now replies false → ShowsReplay net bytes before now false
lost_shows files old new name log net bytes before now [] told opens holds reads h = replay_unshown net bytes before now h
lost_shows files old new name log net bytes before now (reply ∷ []) told opens holds reads h = replay_unshown net bytes before now h
lost_shows files old new name log net bytes before now (reply ∷ Ok given ∷ []) told opens holds reads h =
    read_shows files old new name log net bytes before now reply given false told opens holds reads h
lost_shows files old new name log net bytes before now (reply ∷ Ok given ∷ next ∷ replies) told opens holds reads h = replay_unshown net bytes before now h.2
lost_shows files old new name log net bytes before now (reply ∷ Err fault ∷ replies) told opens holds reads h = replay_unshown net bytes before now h.2

-- a read of a told file within the limit that did not fail gives its bytes, or finds no memory
read_held : (files : List (List ℕ × List ℕ)) (old new : ShelfState) (name bytes : List ℕ) (reply : Reply) → old.files ≡ Some files → Rested old.faults new.faults →
    Holds files name bytes → Reads old new name most_file_bytes reply → (reply ≡ Ok bytes) ⊎ (reply ≡ Err OutOfMemory)
read_held files old new name bytes (Ok given) told calm holds read =
    let there = told_file files old.files name given told read.answer.3 in
    let held = holds.0 in
    let same : given ≡ bytes = cc in inl (ap (λ (b : List ℕ). Ok b) same)
read_held files old new name bytes (Err TooLarge) told calm holds read =
    absurd (not_long files name bytes holds.0 holds.1 (told_long files old.files name told (read.answer.1 calm)))
read_held files old new name bytes (Err Failed) told calm holds read = absurd (rose_not_rested old.faults new.faults read.answer.0 calm)
read_held files old new name bytes (Err OutOfMemory) told calm holds read = inr refl

-- nothing is said of a file that found no memory
unsaid : (which : Which) (fault : ShelfFault) (goes_on : List ℕ → List Reply → Status → List ℕ → Type 0) (replies : List Reply) (status : Status) (text : List ℕ) →
    fault ≡ OutOfMemory → SaysFile (OpensBytes which) goes_on (Err fault ∷ replies) status text → ⊥
unsaid which fault goes_on replies status text lost h =
    let said = subst (λ (f : ShelfFault). SaysFile (OpensBytes which) goes_on (Err f ∷ replies) status text) lost h in said.1

-- a reply for the log that gives no bytes is not the last word of a call that says something
log_given : (files : List (List ℕ × List ℕ)) (old mid new : ShelfState) (log bytes : List ℕ) (fault : ShelfFault) (replies : List Reply)
    (goes_on : List ℕ → List Reply → Status → List ℕ → Type 0) (status : Status) (text : List ℕ) → old.files ≡ Some files → Rested old.faults new.faults → Holds files log bytes →
    Reads old mid log most_file_bytes (Err fault) → ReadsAll mid new [] replies → SaysFile (OpensBytes LogFile) goes_on (Err fault ∷ replies) status text → ⊥
log_given files old mid new log bytes fault replies goes_on status text told calm holds read rest said =
    let last : new ≡ mid = none_read mid new replies rest in
    let calm' = subst (λ (s : ShelfState). Rested old.faults s.faults) last calm in
    ⊎_elim (λ (given : _). let bad : ⊥ = cc in bad) (λ (lost : _). let is : fault ≡ OutOfMemory = cc in unsaid LogFile fault goes_on replies status text is said)
    (read_held files old mid log bytes (Err fault) told calm' holds read)

-- where an answer was found, just the accepted firings
whole_shows : (files : List (List ℕ × List ℕ)) (old new : ShelfState) (name log : List ℕ) (net : NetLists) (bytes : List ℕ) (before now : Lines) (replies : List Reply)
    (goes_on : NetLists → List ℕ → List Reply → Status → List ℕ → Type 0) (status : Status) (text : List ℕ) → old.files ≡ Some files → Rested old.faults new.faults →
    Opens files name net → Holds files log bytes → ReadsAll old new ((NetFile, name) ∷ (LogFile, log) ∷ []) replies →
    SaysFile OpensNet (λ file. SaysFile (OpensBytes LogFile) (goes_on file)) replies status text → ShowsBoth ReplayNet before now replies true → ShowsReplay net bytes before now true
whole_shows files old new name log net bytes before now [] goes_on status text told calm opens holds reads said h = absurd said
whole_shows files old new name log net bytes before now (reply ∷ []) goes_on status text told calm opens holds reads said h =
    absurd (live_reply files old reads.0 new name ((LogFile, log) ∷ []) net (λ file. SaysFile (OpensBytes LogFile) (goes_on file)) reply [] status text said.0 told calm opens reads.1 reads.3
    said.1 said.2)
whole_shows files old new name log net bytes before now (reply ∷ Ok given ∷ []) goes_on status text told calm opens holds reads said h =
    read_shows files old new name log net bytes before now reply given true told opens holds reads h
whole_shows files old new name log net bytes before now (reply ∷ Ok given ∷ next ∷ replies) goes_on status text told calm opens holds reads said h = absurd reads.3.3
whole_shows files old new name log net bytes before now (reply ∷ Err fault ∷ replies) goes_on status text told calm opens holds reads said h =
    let after = live_reply files old reads.0 new name ((LogFile, log) ∷ []) net (λ file. SaysFile (OpensBytes LogFile) (goes_on file)) reply (Err fault ∷ replies) status text said.0 told calm
    opens reads.1 reads.3 said.1 said.2 in
    absurd (log_given files reads.0 reads.3.0 new log bytes fault replies (goes_on net) status text (reads.1.files ∙ told)
    (rested_then old.faults reads.0.faults new.faults reads.1.faults calm) holds reads.3.1 reads.3.3 after)

-- ---- the whole call

log_with : (call : Call) (now : Lines) (net : NetLists) (bytes : List ℕ) (is : ConcernsBoth call ReplayNet net bytes) (ending : Ending) →
    AnsweredAndShown (Asked (Some (OfFiles ReplayNet is.name is.second)) call.lines) (ShowsAsked (Some (OfFiles ReplayNet is.name is.second)) call.lines now)
    (asked_files (Some (OfFiles ReplayNet is.name is.second))) call.shelf_before call.shelf_after ending →
    Finished call.sink_before call.sink_after ending call.status → call.status ≢ NoMemory → ShowsReplay net bytes call.lines now true
log_with call now net bytes is Lost h k other = absurd (other k.0)
log_with call now net bytes is (Whole said text) h k other =
    whole_shows is.files call.shelf_before call.shelf_after is.name is.second net bytes call.lines now h.0 (λ file b. SaysOutcome (SaysFiles ReplayNet call.lines file b)) said text
    is.told is.calm is.opens is.holds h.1 h.2 h.3

lost_with : (call : Call) (now : Lines) (net : NetLists) (bytes : List ℕ) (is : ConcernsBoth call ReplayNet net bytes) (ending : Ending) →
    AnsweredAndShown (Asked (Some (OfFiles ReplayNet is.name is.second)) call.lines) (ShowsAsked (Some (OfFiles ReplayNet is.name is.second)) call.lines now)
    (asked_files (Some (OfFiles ReplayNet is.name is.second))) call.shelf_before call.shelf_after ending →
    Finished call.sink_before call.sink_after ending call.status → call.status ≡ NoMemory → ShowsReplay net bytes call.lines now false
lost_with call now net bytes is Lost h k e =
    lost_shows is.files call.shelf_before call.shelf_after is.name is.second net bytes call.lines now h.0 is.told is.opens is.holds h.1 h.3
lost_with call now net bytes is (Whole said text) h k e =
    absurd (⊎_elim
    (λ (whole : _). (asked_is_said (Some (OfFiles ReplayNet is.name is.second)) call said text (h.0, h.1, h.2)).1 (sym whole.0 ∙ e))
    (λ (cut : _). let bad : ⊥ = cc (cut.0, e) in bad) k)

fault_with : (asked : Option Request) (call : Call) (now : Lines) (ending : Ending) →
    AnsweredAndShown (Asked asked call.lines) (ShowsAsked asked call.lines now) (asked_files asked) call.shelf_before call.shelf_after ending →
    Finished call.sink_before call.sink_after ending call.status → (IsGiven call.status → ⊥) → call.status ≢ WriteFault → call.status ≢ NoMemory → ShowsNothing call.lines now
fault_with asked call now Lost h k other write memory = absurd (memory k.0)
fault_with asked call now (Whole said text) h k other write memory =
    ⊎_elim (λ (whole : _). fault_shows asked call.lines call.lines now h.0 said text (λ own. other (subst IsGiven (sym whole.0) own)) h.2 h.3)
    (λ (cut : _). absurd (write cut.0)) k

-- what the call showed for these words
shown_for : (call : Call) (now : Lines) (asked : Option Request) → ShowsJust call now → request_of call.words ≡ asked → ShowsFor asked call now
shown_for call now asked shown asks = subst (λ (a : Option Request). ShowsFor a call now) asks shown

pub shows_told : (call : Call) (now : Lines) → ShowsJust call now → ShowsTold call now
shows_told call now shown = record {
  of_log = λ net bytes is other. let for = shown_for call now _ shown is.asks in log_with call now net bytes is for.0 for.1 for.2 other;
  of_lost_log = λ net bytes is e. let for = shown_for call now _ shown is.asks in lost_with call now net bytes is for.0 for.1 for.2 e;
  of_refused = λ files name log asks told refused.
      let for = shown_for call now _ shown asks in
      refused_shows files call.shelf_before call.shelf_after name log call.lines now for.1.0 _ told refused for.1.1 for.1.3;
  of_fault = λ other write memory. fault_with (request_of call.words) call now shown.0 shown.1 shown.2 (λ given. other (own_of_given call.status given)) write memory;
  of_others = λ other. others_show (request_of call.words) other call.lines now shown.1.0 _ shown.1.3;
}
