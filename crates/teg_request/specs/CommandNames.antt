-- Which words name a command: just the names that the usage tells.
use Rattle.std.specs.Prelude.{◌≡◌, List, ℕ, All, Any, Some}
use Rattle.teg_report.specs.UsageLines.{commands}
use Rattle.teg_words.specs.CommandLineWords.{Given}
use Rattle.teg_request.specs.declared.request.Request.{Request}
use Rattle.teg_request.specs.Requests.{asked_for}

-- something is asked for with this first word
abbrev pub IsAsked : List ℕ → Type 0
IsAsked name = (given : Given) × (request : Request) × (given.command ≡ name) × (asked_for given ≡ Some request)

-- the usage tells a command of this name
abbrev pub IsInUsage : List ℕ → Type 0
IsInUsage name = Any (λ command. command.0 ≡ name) commands

-- something is asked for with each name of the usage, and with no other word
pub record CommandsAreThoseOfTheUsage : Type 0 where
  pub accepted : All (λ command. IsAsked command.0) commands
  pub no_other : (name : List ℕ) → IsAsked name → IsInUsage name
