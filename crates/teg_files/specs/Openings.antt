-- What a read of a file opens: a value that the request goes on with, or a refusal.
use Rattle.std.specs.Prelude.{ℕ, ◌≡◌, List, Result, Ok, Err}
use Rattle.teg_net.specs.declared.entries.PlaceId.{PlaceId}
use Rattle.teg_reader.specs.declared.refusals.ReadRefusal.{ReadRefusal}
use Rattle.teg_reader.specs.declared.refusals.ReadRefusal.TheVariants.{NotToml}
use Rattle.teg_net.specs.Nets.{NetLists}
use Rattle.teg_net.specs.Circuits.{IsLive, IsTokenFree}
use Rattle.teg_reader.specs.Documents.{document}
use Rattle.teg_outside.specs.declared.shelf.ShelfFault.{ShelfFault}
use Rattle.teg_outside.specs.declared.shelf.ShelfFault.TheVariants.{Failed, TooLarge, OutOfMemory}
use Rattle.teg_files.specs.declared.status.Status.{Status}
use Rattle.teg_files.specs.declared.status.Status.TheVariants.{Text, Net, ReadFault}
use Rattle.teg_report.specs.declared.answer.Which.{Which}
use Rattle.teg_report.specs.declared.answer.Which.TheVariants.{Net as NetFile}
use Rattle.teg_files.specs.RefusalTexts.{read_text, token_free_text, too_large_text, fault_text}

-- what the file says, or the status and the text of its refusal
pub data Opening (A : Type 0) : Type 0 where
  Accepted : (file : A) → Opening A
  Refused : (status : Status) (text : List ℕ) → Opening A

-- what opens where a file gave no bytes: its refusal, and nothing where memory was not found
abbrev pub OpensUnread : {A : Type 0} → Which → ShelfFault → Opening A → Type 0
OpensUnread which TooLarge opening = opening ≡ Refused Text (too_large_text which)
OpensUnread which Failed opening = opening ≡ Refused ReadFault (fault_text which)
OpensUnread which OutOfMemory opening = ⊥

-- what a read of a file opens, by what its bytes open
abbrev pub OpensFile : {A : Type 0} → Which → (List ℕ → Opening A → Type 0) → Result (List ℕ) ShelfFault → Opening A → Type 0
OpensFile which opens (Ok bytes) opening = opens bytes opening
OpensFile which opens (Err fault) opening = OpensUnread which fault opening

-- the status of a file that says no net
abbrev pub read_status : ReadRefusal → Status
read_status NotToml = Text
read_status _ = Net

-- a net is accepted where it is live, and otherwise refused with one of its token-free circuits
abbrev pub OpensNetLists : NetLists → Opening NetLists → Type 0
OpensNetLists net (Accepted file) = (file ≡ net) × IsLive net
OpensNetLists net (Refused status text) =
    (status ≡ Net) × ((circuit : List PlaceId) × IsTokenFree net circuit × (text ≡ token_free_text net circuit))

-- what the bytes of a net file open, by what they say
abbrev pub OpensDocument : Result NetLists ReadRefusal → Opening NetLists → Type 0
OpensDocument (Ok net) opening = OpensNetLists net opening
OpensDocument (Err refusal) opening = opening ≡ Refused (read_status refusal) (read_text refusal)

-- what a read of the net file opens
abbrev pub OpensNet : Result (List ℕ) ShelfFault → Opening NetLists → Type 0
OpensNet = OpensFile NetFile (λ bytes. OpensDocument (document bytes))

-- what a read of a second file opens: its bytes, whose rows are the business of the command
abbrev pub OpensBytes : Which → Result (List ℕ) ShelfFault → Opening (List ℕ) → Type 0
OpensBytes which = OpensFile which (λ bytes opening. opening ≡ Accepted bytes)

-- what was read is accepted as such a file, so that more may be read; nothing is read after a second file
abbrev pub IsTaken : Which → Result (List ℕ) ShelfFault → Type 0
IsTaken NetFile reply = (net : NetLists) × OpensNet reply (Accepted net)
IsTaken which reply = ⊥
