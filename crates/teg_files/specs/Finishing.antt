-- How an ending is written.
use Rattle.std.specs.Prelude.{ℕ, ◌≡◌, ◌⊎◌, List, Option}
use Rattle.teg_outside.specs.Causes.{Rose}
use Rattle.teg_outside.specs.Sinks.{SinkState, BytesGrow, PrefixGrows}
use Rattle.teg_files.specs.declared.status.Status.{Status}
use Rattle.teg_files.specs.declared.status.Status.TheVariants.{WriteFault, NoMemory}
use Rattle.teg_outcome.specs.declared.outcome.Verdict.{Verdict}
use Rattle.teg_outcome.specs.CommandOutcomes.{Tells}
use Rattle.teg_files.specs.Endings.{Ending, Whole, Lost, ending_of}

-- the status of the call, once the text is written: the whole of it, or a first part before a fault
abbrev pub Finished : SinkState → SinkState → Ending → Status → Type 0
Finished old new (Whole said text) status =
    ((status ≡ said) × (new.faults ≡ old.faults) × BytesGrow old.bytes new.bytes text)
    ⊎ ((status ≡ WriteFault) × Rose old.faults new.faults × PrefixGrows old.bytes new.bytes text)
Finished old new Lost status = (status ≡ NoMemory) × (new ≡ old)

-- what a command comes to, if it found memory, and its writing
abbrev pub WritesOutcome : (Verdict → List ℕ → Type 0) → SinkState → SinkState → Status → Type 0
WritesOutcome says old new status = (outcome : Option (Verdict × List ℕ)) × Tells says outcome × Finished old new (ending_of outcome) status
