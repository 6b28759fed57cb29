-- What is told of the outcome of a command.
use Rattle.std.proofs.Common.{ℕ, List, Option, Some, None}
use Rattle.teg_outcome.specs.declared.outcome.Verdict.{Verdict}
use Rattle.teg_outcome.specs.CommandOutcomes.{Tells}

-- what is told is told of weaker claims too
pub tells_weaker : (says claims : Verdict → List ℕ → Type 0) (outcome : Option (Verdict × List ℕ)) →
    ((verdict : Verdict) (text : List ℕ) → says verdict text → claims verdict text) → Tells says outcome → Tells claims outcome
tells_weaker says claims None weaker h = tt
tells_weaker says claims (Some outcome) weaker h = weaker outcome.0 outcome.1 h
