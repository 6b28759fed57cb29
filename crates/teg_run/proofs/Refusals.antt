-- One file that is refused: what the read of it tells, and which fault of the file it is.
use Rattle.std.proofs.Common.{◌≡◌, ◌≢◌, ℕ, ◌≤◌, ◌⊎◌, ⊎_elim, inl, inr, List, [], ◌∷◌, length, Option, Some, Result, Ok, Err, sym, subst, ap, ◌∙◌, arith}
use Rattle.teg_net.specs.declared.entries.PlaceId.{PlaceId}
use Rattle.teg_net.specs.Nets.{NetLists}
use Rattle.teg_net.specs.Circuits.{IsLive, IsTokenFree}
use Rattle.teg_reader.specs.declared.refusals.ReadRefusal.{ReadRefusal}
use Rattle.teg_reader.specs.declared.refusals.ReadRefusal.TheVariants.{NotToml}
use Rattle.teg_reader.specs.Documents.{document}
use Rattle.teg_outside.specs.Causes.{Rose, Rested}
use Rattle.teg_outside.specs.Shelves.{ShelfState, IsFile, IsLongFile, ReadsGrow, file_of}
use Rattle.teg_outside.proofs.Counts.{rose_not_rested}
use Rattle.teg_report.specs.csv_records.Records.{most_file_bytes}
use Rattle.teg_report.specs.declared.answer.Which.{Which}
use Rattle.teg_report.specs.declared.answer.Which.TheVariants.{Net as NetFile, Due as DueFile, Log as LogFile, Timetable as TimetableFile}
use Rattle.teg_files.specs.declared.status.Status.{Status}
use Rattle.teg_files.specs.declared.status.Status.TheVariants.{Text, Net, ReadFault}
use Rattle.teg_run.specs.Headline.{IsFileTooLong, NetIsNoText, NetIsRefused, IsAccepted, IsNoText, IsNoNet}
use Rattle.teg_files.specs.RefusalTexts.{read_text, token_free_text, too_large_text, fault_text}
use Rattle.teg_run.proofs.Verdicts.{IsSaid}

-- how the file is refused, with this status and text
pub data Refusal (old new : ShelfState) (which : Which) (name : List ℕ) (status : Status) (text : List ℕ) : Type 0 where
  Unread : (is : status ≡ ReadFault) (said : text ≡ fault_text which) (rose : Rose old.faults new.faults)
      (told : ReadsGrow old.reads new.reads ((name, most_file_bytes) ∷ [])) → Refusal old new which name status text
  Overlong : (is : status ≡ Text) (said : text ≡ too_large_text which) (rose : Rose old.overlong new.overlong)
      (long : Rested old.faults new.faults → IsLongFile old.files name most_file_bytes) → Refusal old new which name status text
  NoToml : (of_net : which ≡ NetFile) (is : status ≡ Text) (said : text ≡ read_text NotToml) (bytes : List ℕ) (file : IsFile old.files name bytes)
      (short : length bytes ≤ most_file_bytes) (reads_as : document bytes ≡ Err NotToml) → Refusal old new which name status text
  NoNet : (of_net : which ≡ NetFile) (is : status ≡ Net) (refusal : ReadRefusal) (said : text ≡ read_text refusal) (bytes : List ℕ) (file : IsFile old.files name bytes)
      (short : length bytes ≤ most_file_bytes) (reads_as : document bytes ≡ Err refusal) (other : refusal ≢ NotToml) → Refusal old new which name status text
  NotLive : (of_net : which ≡ NetFile) (is : status ≡ Net) (net : NetLists) (circuit : List PlaceId) (said : text ≡ token_free_text net circuit) (bytes : List ℕ)
      (file : IsFile old.files name bytes) (short : length bytes ≤ most_file_bytes) (reads_as : document bytes ≡ Ok net)
      (free : IsTokenFree net circuit) → Refusal old new which name status text

-- what bytes are accepted as
abbrev pub Accepts : Which → List ℕ → Type 0
Accepts NetFile bytes = (net : NetLists) × (document bytes ≡ Ok net) × IsLive net
Accepts DueFile bytes = Unit {0}
Accepts LogFile bytes = Unit {0}
Accepts TimetableFile bytes = Unit {0}

-- ---- what the file holds, where it is told

pub told_file : (files : List (List ℕ × List ℕ)) (told : Option (List (List ℕ × List ℕ))) (name bytes : List ℕ) → told ≡ Some files →
    IsFile told name bytes → file_of files name ≡ Some bytes
told_file files told name bytes e h = subst (λ (o : Option (List (List ℕ × List ℕ))). IsFile o name bytes) e h

pub told_long : (files : List (List ℕ × List ℕ)) (told : Option (List (List ℕ × List ℕ))) (name : List ℕ) → told ≡ Some files →
    IsLongFile told name most_file_bytes → IsFileTooLong files name
told_long files told name e h = subst (λ (o : Option (List (List ℕ × List ℕ))). IsLongFile o name most_file_bytes) e h

-- a name has one file
pub same_bytes : (files : List (List ℕ × List ℕ)) (name xs ys : List ℕ) → file_of files name ≡ Some xs → file_of files name ≡ Some ys → xs ≡ ys
same_bytes files name xs ys h k = cc

pub not_long : (files : List (List ℕ × List ℕ)) (name bytes : List ℕ) → file_of files name ≡ Some bytes → length bytes ≤ most_file_bytes → IsFileTooLong files name → ⊥
not_long files name bytes file short long = omega (arith, ap length (same_bytes files name bytes long.0 file long.1), long.2)

pub same_document : (files : List (List ℕ × List ℕ)) (name xs ys : List ℕ) (said : Result NetLists ReadRefusal) →
    file_of files name ≡ Some xs → file_of files name ≡ Some ys → document ys ≡ said → document xs ≡ said
same_document files name xs ys said h k e = ap document (same_bytes files name xs ys h k) ∙ e

-- accepted bytes of a told file
pub accepted_told : (files : List (List ℕ × List ℕ)) (which : Which) (name bytes : List ℕ) → file_of files name ≡ Some bytes → length bytes ≤ most_file_bytes →
    Accepts which bytes → IsAccepted files which name
accepted_told files NetFile name bytes file short accepts = (accepts.0, (bytes, (file, short), accepts.1, accepts.2))
accepted_told files DueFile name bytes file short accepts = (bytes, (file, short))
accepted_told files LogFile name bytes file short accepts = (bytes, (file, short))
accepted_told files TimetableFile name bytes file short accepts = (bytes, (file, short))

-- a live net has no circuit without tokens
pub live_not_free : (net found : NetLists) (circuit : List PlaceId) → IsLive net → found ≡ net → IsTokenFree found circuit → ⊥
live_not_free net found circuit live same free =
    let free' = subst (λ (n : NetLists). IsTokenFree n circuit) same free in live circuit free'.circuit free'.no_tokens

-- ---- a file has one fault, or is accepted

-- a file that is no text is not accepted
pub no_text_not_accepted : (files : List (List ℕ × List ℕ)) (which : Which) (name text : List ℕ) → IsAccepted files which name → IsNoText files which name text → ⊥
no_text_not_accepted files NetFile name text accepted fault =
    let opens = accepted.1 in
    ⊎_elim (λ (long : _). not_long files name opens.0 opens.1.0 opens.1.1 long.0)
    (λ (other : _). let same = same_document files name opens.0 other.0 (Err NotToml) opens.1.0 other.1.0 other.2 in cc) fault
no_text_not_accepted files DueFile name text accepted fault = not_long files name accepted.0 accepted.1.0 accepted.1.1 fault.0
no_text_not_accepted files LogFile name text accepted fault = not_long files name accepted.0 accepted.1.0 accepted.1.1 fault.0
no_text_not_accepted files TimetableFile name text accepted fault = not_long files name accepted.0 accepted.1.0 accepted.1.1 fault.0

-- a file that says no live net is not accepted
pub no_net_not_accepted : (files : List (List ℕ × List ℕ)) (which : Which) (name text : List ℕ) → IsAccepted files which name → IsNoNet files which name text → ⊥
no_net_not_accepted files NetFile name text accepted fault =
    let opens = accepted.1 in
    ⊎_elim (λ (no_net : _). let same = same_document files name opens.0 no_net.0 (Err no_net.1) opens.1.0 no_net.2.0 no_net.3 in let bad : ⊥ = cc in bad)
    (λ (not_live : _). let same = same_document files name opens.0 not_live.0 (Ok not_live.1) opens.1.0 not_live.3.0 not_live.4 in
    let same_net : not_live.1 ≡ accepted.0 = cc in live_not_free accepted.0 not_live.1 not_live.2 opens.3 same_net not_live.5) fault
no_net_not_accepted files DueFile name text accepted fault = fault
no_net_not_accepted files LogFile name text accepted fault = fault
no_net_not_accepted files TimetableFile name text accepted fault = fault

-- a file that is no text is not one that says no live net
faults_differ : (files : List (List ℕ × List ℕ)) (name text said : List ℕ) → NetIsNoText files name text → NetIsRefused files name said → ⊥
faults_differ files name text said no_text refused =
    ⊎_elim
    (λ (no_net : _). ⊎_elim (λ (long : _). not_long files name no_net.0 no_net.2.0 no_net.2.1 long.0)
    (λ (other : _). no_net.4 (let same = same_document files name no_net.0 other.0 (Err NotToml) no_net.2.0 other.1.0 other.2 in let is : no_net.1 ≡ NotToml = cc (same, no_net.3) in is)) no_text)
    (λ (not_live : _). ⊎_elim (λ (long : _). not_long files name not_live.0 not_live.3.0 not_live.3.1 long.0)
    (λ (other : _). let same = same_document files name not_live.0 other.0 (Err NotToml) not_live.3.0 other.1.0 other.2 in let bad : ⊥ = cc (same, not_live.4) in bad) no_text)
    refused

-- so with every file
file_faults_differ : (files : List (List ℕ × List ℕ)) (which : Which) (name text said : List ℕ) → IsNoText files which name text → IsNoNet files which name said → ⊥
file_faults_differ files NetFile name text said no_text refused = faults_differ files name text said no_text refused
file_faults_differ files DueFile name text said no_text refused = refused
file_faults_differ files LogFile name text said no_text refused = refused
file_faults_differ files TimetableFile name text said no_text refused = refused

-- ---- which fault a refusal tells

-- a file that is too long is no text
long_is_no_text : (files : List (List ℕ × List ℕ)) (which : Which) (name text : List ℕ) → IsFileTooLong files name → text ≡ too_large_text which → IsNoText files which name text
long_is_no_text files NetFile name text long said = inl (long, said)
long_is_no_text files DueFile name text long said = (long, said)
long_is_no_text files LogFile name text long said = (long, said)
long_is_no_text files TimetableFile name text long said = (long, said)

-- a refusal with the status Text is of a file that is no text, or of one that counted as too long, which it is where no read failed
pub no_text_counted : (files : List (List ℕ × List ℕ)) (old new : ShelfState) (which : Which) (name : List ℕ) (status : Status) (text : List ℕ) →
    old.files ≡ Some files → status ≡ Text → Refusal old new which name status text →
    IsNoText files which name text ⊎ ((text ≡ too_large_text which) × Rose old.overlong new.overlong × (Rested old.faults new.faults → IsFileTooLong files name))
no_text_counted files old new which name status text told e (Unread is said rose grew) = absurd (let bad : ⊥ = cc in bad)
no_text_counted files old new which name status text told e (Overlong is said rose long) = inr (said, rose, λ rested. told_long files old.files name told (long rested))
no_text_counted files old new which name status text told e (NoToml of_net is said bytes file short reads_as) =
    inl (subst (λ (w : Which). IsNoText files w name text) (sym of_net) (inr (bytes, (told_file files old.files name bytes told file, short), reads_as, said)))
no_text_counted files old new which name status text told e (NoNet of_net is refusal said bytes file short reads_as other) = absurd (let bad : ⊥ = cc in bad)
no_text_counted files old new which name status text told e (NotLive of_net is net circuit said bytes file short reads_as free) = absurd (let bad : ⊥ = cc in bad)

-- where no read failed, it is of a file that is no text
pub no_text_told : (files : List (List ℕ × List ℕ)) (old new : ShelfState) (which : Which) (name : List ℕ) (status : Status) (text : List ℕ) →
    old.files ≡ Some files → (status ≡ Text → Rested old.faults new.faults) → status ≡ Text → Refusal old new which name status text → IsNoText files which name text
no_text_told files old new which name status text told calm e refusal =
    ⊎_elim (λ (is : IsNoText files which name text). is) (λ (counted : _). long_is_no_text files which name text (counted.2 (calm e)) counted.0)
    (no_text_counted files old new which name status text told e refusal)

-- a refusal with the status Net is of a file that says no live net
pub no_net_told : (files : List (List ℕ × List ℕ)) (old new : ShelfState) (which : Which) (name : List ℕ) (status : Status) (text : List ℕ) →
    old.files ≡ Some files → (status ≡ Text → Rested old.faults new.faults) → status ≡ Net → Refusal old new which name status text → IsNoNet files which name text
no_net_told files old new which name status text told calm e (Unread is said rose grew) = absurd (let bad : ⊥ = cc in bad)
no_net_told files old new which name status text told calm e (Overlong is said rose long) = absurd (let bad : ⊥ = cc in bad)
no_net_told files old new which name status text told calm e (NoToml of_net is said bytes file short reads_as) = absurd (let bad : ⊥ = cc in bad)
no_net_told files old new which name status text told calm e (NoNet of_net is refusal said bytes file short reads_as other) =
    subst (λ (w : Which). IsNoNet files w name text) (sym of_net) (inl (bytes, refusal, (told_file files old.files name bytes told file, short), reads_as, other, said))
no_net_told files old new which name status text told calm e (NotLive of_net is net circuit said bytes file short reads_as free) =
    subst (λ (w : Which). IsNoNet files w name text) (sym of_net) (inr (bytes, net, circuit, (told_file files old.files name bytes told file, short), reads_as, free, said))

-- where no read failed, a refusal has the status Text or Net
pub status_told : (files : List (List ℕ × List ℕ)) (old new : ShelfState) (which : Which) (name : List ℕ) (status : Status) (text : List ℕ) →
    Rested old.faults new.faults → Refusal old new which name status text → (status ≡ Text) ⊎ (status ≡ Net)
status_told files old new which name status text rested (Unread is said rose grew) = absurd (rose_not_rested old.faults new.faults rose rested)
status_told files old new which name status text rested (Overlong is said rose long) = inl is
status_told files old new which name status text rested (NoToml of_net is said bytes file short reads_as) = inl is
status_told files old new which name status text rested (NoNet of_net is refusal said bytes file short reads_as other) = inr is
status_told files old new which name status text rested (NotLive of_net is net circuit said bytes file short reads_as free) = inr is

-- a file that is no text is refused with the status Text
pub no_text_gives : (files : List (List ℕ × List ℕ)) (old new : ShelfState) (which : Which) (name : List ℕ) (status : Status) (text said : List ℕ) →
    old.files ≡ Some files → Rested old.faults new.faults → IsNoText files which name said → Refusal old new which name status text → status ≡ Text
no_text_gives files old new which name status text said told rested fault refusal =
    ⊎_elim (λ (is : status ≡ Text). is)
    (λ (is : status ≡ Net). absurd (file_faults_differ files which name said text fault (no_net_told files old new which name status text told (λ e. rested) is refusal)))
    (status_told files old new which name status text rested refusal)

-- a file that says no live net is refused with the status Net
pub no_net_gives : (files : List (List ℕ × List ℕ)) (old new : ShelfState) (which : Which) (name : List ℕ) (status : Status) (text said : List ℕ) →
    old.files ≡ Some files → Rested old.faults new.faults → IsNoNet files which name said → Refusal old new which name status text → status ≡ Net
no_net_gives files old new which name status text said told rested fault refusal =
    ⊎_elim (λ (is : status ≡ Text). absurd (file_faults_differ files which name text said (no_text_told files old new which name status text told (λ e. rested) is refusal) fault))
    (λ (is : status ≡ Net). is)
    (status_told files old new which name status text rested refusal)

-- an accepted file is not refused
pub accepted_not_refused : (files : List (List ℕ × List ℕ)) (old new : ShelfState) (which : Which) (name : List ℕ) (status : Status) (text : List ℕ) →
    old.files ≡ Some files → Rested old.faults new.faults → IsAccepted files which name → Refusal old new which name status text → ⊥
accepted_not_refused files old new which name status text told rested accepted refusal =
    ⊎_elim (λ (is : status ≡ Text). no_text_not_accepted files which name text accepted (no_text_told files old new which name status text told (λ e. rested) is refusal))
    (λ (is : status ≡ Net). no_net_not_accepted files which name text accepted (no_net_told files old new which name status text told (λ e. rested) is refusal))
    (status_told files old new which name status text rested refusal)

-- ---- what a refusal says, whether files are told or not

-- its status is none of the words, the sink or memory
pub refusal_is_said : (old new : ShelfState) (which : Which) (name : List ℕ) (status : Status) (text : List ℕ) → Refusal old new which name status text → IsSaid status
refusal_is_said old new which name status text (Unread is said rose grew) = record { no_words = λ e. cc; no_write_fault = λ e. cc; no_memory = λ e. cc }
refusal_is_said old new which name status text (Overlong is said rose long) = record { no_words = λ e. cc; no_write_fault = λ e. cc; no_memory = λ e. cc }
refusal_is_said old new which name status text (NoToml of_net is said bytes file short reads_as) = record { no_words = λ e. cc; no_write_fault = λ e. cc; no_memory = λ e. cc }
refusal_is_said old new which name status text (NoNet of_net is refusal said bytes file short reads_as other) = record { no_words = λ e. cc; no_write_fault = λ e. cc; no_memory = λ e. cc }
refusal_is_said old new which name status text (NotLive of_net is net circuit said bytes file short reads_as free) = record { no_words = λ e. cc; no_write_fault = λ e. cc; no_memory = λ e. cc }

no_toml_differs : (which : Which) → read_text NotToml ≡ too_large_text which → ⊥
no_toml_differs NetFile e = omega (arith, ap length e)
no_toml_differs DueFile e = omega (arith, ap length e)
no_toml_differs LogFile e = omega (arith, ap length e)
no_toml_differs TimetableFile e = omega (arith, ap length e)

-- a text that says that a file is too long tells a count that rose
pub overlong_told : (old new : ShelfState) (which other : Which) (name : List ℕ) (status : Status) (text : List ℕ) →
    status ≡ Text → text ≡ too_large_text other → Refusal old new which name status text → Rose old.overlong new.overlong
overlong_told old new which other name status text e t (Unread is said rose grew) = absurd (let bad : ⊥ = cc in bad)
overlong_told old new which other name status text e t (Overlong is said rose long) = rose
overlong_told old new which other name status text e t (NoToml of_net is said bytes file short reads_as) = absurd (no_toml_differs other (sym said ∙ t))
overlong_told old new which other name status text e t (NoNet of_net is refusal said bytes file short reads_as no_toml) = absurd (let bad : ⊥ = cc in bad)
overlong_told old new which other name status text e t (NotLive of_net is net circuit said bytes file short reads_as free) = absurd (let bad : ⊥ = cc in bad)

-- a fault of a read tells a count that rose, and names the file
pub fault_told : (old new : ShelfState) (which : Which) (name : List ℕ) (status : Status) (text : List ℕ) → status ≡ ReadFault → Refusal old new which name status text →
    Rose old.faults new.faults × (text ≡ fault_text which) × ReadsGrow old.reads new.reads ((name, most_file_bytes) ∷ [])
fault_told old new which name status text e (Unread is said rose grew) = (rose, said, grew)
fault_told old new which name status text e (Overlong is said rose long) = absurd (let bad : ⊥ = cc in bad)
fault_told old new which name status text e (NoToml of_net is said bytes file short reads_as) = absurd (let bad : ⊥ = cc in bad)
fault_told old new which name status text e (NoNet of_net is refusal said bytes file short reads_as other) = absurd (let bad : ⊥ = cc in bad)
fault_told old new which name status text e (NotLive of_net is net circuit said bytes file short reads_as free) = absurd (let bad : ⊥ = cc in bad)
