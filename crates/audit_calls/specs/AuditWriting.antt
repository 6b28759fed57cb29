-- Working definitions of a text written into a sink.
use Rattle.std.specs.Prelude.{ℕ, ◌≡◌, List, Result, Ok, Err}
use Rattle.teg_outside.specs.Causes.{Rose}
use Rattle.teg_outside.specs.Sinks.{SinkState, BytesGrow, PrefixGrows}
use Rattle.teg_outside.specs.declared.sink.SinkFault.{SinkFault}
use Rattle.teg_outside.specs.declared.sink.SinkFault.TheVariants.{Failed}

-- the whole of the text was written, or a first part before a fault
abbrev pub WritesWhole : SinkState → SinkState → List ℕ → Result (Unit {0}) SinkFault → Type 0
WritesWhole old new text (Ok _) = (new.faults ≡ old.faults) × BytesGrow old.bytes new.bytes text
WritesWhole old new text (Err Failed) = Rose old.faults new.faults × PrefixGrows old.bytes new.bytes text
