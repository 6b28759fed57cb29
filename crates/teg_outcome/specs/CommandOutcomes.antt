-- What a command comes to, if it found memory.
use Rattle.std.specs.Prelude.{ℕ, List, Option, Some, None, Result, Ok, Err, ◌≡◌, ◌≢◌}
use Rattle.teg_net.specs.declared.memory.OutOfMemory.{OutOfMemory}
use Rattle.teg_outcome.specs.declared.outcome.CommandOutcome.{CommandOutcome}
use Rattle.teg_outcome.specs.declared.outcome.Verdict.{Verdict}
use Rattle.teg_text.specs.Lines.{written}

-- how a command ends and its text, if memory was found
abbrev pub outcome_of : Result CommandOutcome OutOfMemory → Option (Verdict × List ℕ)
outcome_of (Ok outcome) = Some (outcome.verdict, outcome.text.items)
outcome_of (Err e) = None

-- a claim on what a command comes to, where it found memory
abbrev pub Tells : (Verdict → List ℕ → Type 0) → Option (Verdict × List ℕ) → Type 0
Tells says None = Unit {0}
Tells says (Some outcome) = says outcome.0 outcome.1

-- it is told why, by the lines of a refusal that keeps this: the command ends so, and not for want of memory
abbrev pub TellsWhy : {R : Type 0} → (R → List (List (List ℕ))) → (R → Type 0) → (memory : R) → (wanted : Verdict) → R → Verdict → List ℕ → Type 0
TellsWhy lines Keeps memory wanted refusal verdict text = (verdict ≡ wanted) × (refusal ≢ memory) × Keeps refusal × (text ≡ written (lines refusal))
