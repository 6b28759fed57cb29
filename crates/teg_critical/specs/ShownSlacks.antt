-- What the checkers of slack show of a place is its slack (chapters 2 and 3).
use Rattle.std.specs.Prelude.{ℕ, ℤ, ◌≡◌, List, Some}
use Rattle.teg_net.specs.declared.entries.PlaceId.{PlaceId}
use Rattle.teg_net.specs.declared.answers.CycleAnswer.{CycleAnswer}
use Rattle.teg_net.specs.Nets.{NetLists, HasEndsInRange}
use Rattle.teg_net.specs.Ratios.{Fraction}
use Rattle.teg_net.specs.Certificates.{IsCertificate}
use Rattle.teg_certificates.specs.BestRatios.{best_ratio_of}
use Rattle.teg_certificates.specs.SlackWitnesses.{IsCriticalCircuit, IsRiseShown, RiseAtPlace}
use Rattle.teg_critical.specs.declared.slacks.Slack.TheVariants.{NoCircuit, Critical, Rise}
use Rattle.teg_critical.specs.Slacks.{IsSlackOf}

-- what is shown of the place at the ratio is its slack
pub record WitnessesTell (net : NetLists) (r : Fraction) (p : PlaceId) : Type 0 where
  pub none : (numbers : List ℕ) → RiseAtPlace net numbers p → IsSlackOf net r p NoCircuit
  pub critical : (ps : List PlaceId) → IsCriticalCircuit net r p ps → IsSlackOf net r p Critical
  pub rise : (by : ℕ) (ps : List PlaceId) (vs : List ℤ) → IsRiseShown net r p by ps vs → IsSlackOf net r p (Rise by)

-- with the ratio of the best part of a certified answer, what is shown of a place is its slack
abbrev pub WitnessesTellSlacks : Type 0
WitnessesTellSlacks =
    (net : NetLists) (answer : CycleAnswer) → HasEndsInRange net → IsCertificate net answer → (r : Fraction) → best_ratio_of answer ≡ Some r
    → (p : PlaceId) → WitnessesTell net r p
