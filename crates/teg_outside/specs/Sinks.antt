-- What a sink tells, and what a write does to it.
use Rattle.std.specs.Prelude.{ℕ, ◌≤◌, ◌<◌, ◌≡◌, List, [], ◌++◌, length, take, Option, Some, None, Result, Ok, Err}
use Rattle.std.specs.Io.KnownBytes.{Appends}
use Rattle.teg_outside.specs.Causes.{Rose}
use Rattle.teg_outside.specs.declared.sink.SinkFault.{SinkFault}
use Rattle.teg_outside.specs.declared.sink.SinkFault.TheVariants.{Failed}

-- a sink as contracts see it
pub record SinkState : Type 0 where
  -- the bytes that it tells
  pub bytes : Option (List ℕ)
  -- how many writes failed
  pub faults : ℕ

-- where bytes are told, these were appended
abbrev pub BytesGrow : Option (List ℕ) → Option (List ℕ) → List ℕ → Type 0
BytesGrow None new more = new ≡ None
BytesGrow (Some bytes) new more = new ≡ Some (bytes ++ more)

-- where bytes are told, some first part of the text was appended
abbrev pub PrefixGrows : Option (List ℕ) → Option (List ℕ) → List ℕ → Type 0
PrefixGrows old new text = (n : ℕ) × (n ≤ length text) × BytesGrow old new (take n text)

-- where a writer's bytes are known, some first part of the text was appended
abbrev pub AppendsPrefix : Option (List ℕ) → Option (List ℕ) → List ℕ → Type 0
AppendsPrefix old new text = (n : ℕ) × (n ≤ length text) × Appends old new (take n text)

-- what a write of a piece did, by its answer
abbrev pub WriteAnswers : SinkState → SinkState → List ℕ → Result ℕ SinkFault → Type 0
WriteAnswers old new piece (Ok n) =
    (n ≤ length piece) × (0 < length piece → 0 < n) × (new.faults ≡ old.faults)
    × BytesGrow old.bytes new.bytes (take n piece)
WriteAnswers old new piece (Err Failed) =
    (0 < length piece) × Rose old.faults new.faults × BytesGrow old.bytes new.bytes []
