-- How the work on a request ends, before anything is written.
use Rattle.std.specs.Prelude.{ℕ, Bool, true, false, List, Option, Some, None}
use Rattle.teg_files.specs.declared.status.Status.{Status}
use Rattle.teg_outcome.specs.declared.outcome.Verdict.{Verdict}
use Rattle.teg_files.specs.Statuses.{status_of}

-- how the work ends: with a status and the whole of its text, or for want of memory
pub data Ending : Type 0 where
  Whole : (status : Status) (text : List ℕ) → Ending
  Lost : Ending

-- the ending of a request whose command has this outcome, or finds no memory
abbrev pub ending_of : Option (Verdict × List ℕ) → Ending
ending_of None = Lost
ending_of (Some outcome) = Whole (status_of outcome.0) outcome.1

-- whether the ending has a text
abbrev pub is_whole : Ending → Bool
is_whole (Whole status text) = true
is_whole Lost = false

-- a claim on the ending, where memory was found
abbrev pub EndsWith : (Status → List ℕ → Type 0) → Ending → Type 0
EndsWith says (Whole status text) = says status text
EndsWith says Lost = Unit {0}
