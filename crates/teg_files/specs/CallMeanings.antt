-- Working definitions of what values of the code mean.
use Rattle.std.specs.Prelude.{ℕ, ◌≡◌, Option, Some, None, Result, Ok, Err}
use Rattle.std.specs.Global.{Vec}
use Rattle.teg_net.specs.declared.memory.OutOfMemory.{OutOfMemory}
use Rattle.teg_files.specs.declared.ending.Ending.{Ending as CodedEnding}
use Rattle.teg_files.specs.declared.ending.Ending.TheVariants.{Whole as CodedWhole, Lost as CodedLost}
use Rattle.teg_files.specs.declared.opening.Opened.{Opened}
use Rattle.teg_files.specs.declared.opening.Opened.TheVariants.{Accepted as OpenedAccepted, Refused as OpenedRefused, Lost as OpenedLost}
use Rattle.teg_files.specs.declared.status.Status.{Status}
use Rattle.teg_files.specs.Endings.{Ending, Whole, Lost}
use Rattle.teg_files.specs.Openings.{Opening, Accepted, Refused}

-- the ending of the work
abbrev pub ended : CodedEnding → Ending
ended (CodedWhole status text) = Whole status text.items
ended CodedLost = Lost

-- what a file opens, if memory was found
abbrev pub opening_of : {A : Type 0} → Opened A → Option (Opening A)
opening_of (OpenedAccepted file) = Some (Accepted file)
opening_of (OpenedRefused status text) = Some (Refused status text.items)
opening_of OpenedLost = None

-- a file is refused with this status and text, if memory was found for the text
abbrev pub RefusesWith : {A : Type 0} → Status → Result (Vec ℕ) OutOfMemory → Option (Opening A) → Type 0
RefusesWith status (Ok text) opening = opening ≡ Some (Refused status text.items)
RefusesWith status (Err e) opening = opening ≡ None
