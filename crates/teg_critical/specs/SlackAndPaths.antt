-- The laws of slack: what it has to do with greatest paths, and that a place has one (chapters 2 and 3).
use Rattle.std.specs.Prelude.{ℕ, ◌/◌, ◌<◌, ◌≡◌, ◌↔◌, length}
use Rattle.teg_net.specs.declared.entries.PlaceId.{PlaceId}
use Rattle.teg_net.specs.Nets.{NetLists}
use Rattle.teg_net.specs.Ratios.{Fraction}
use Rattle.teg_net.specs.GreatestRatios.{IsGreatestRatio, IsAnyPlace}
use Rattle.teg_critical.specs.declared.slacks.Slack.{Slack}
use Rattle.teg_critical.specs.Slacks.{IsCritical, IsSlack, IsSlackOf}
use Rattle.teg_critical.specs.Gaps.{IsGap}

-- a place is critical exactly where its gap is 0, and otherwise the gap over the ratio's tokens, rounded down, is its slack
pub record GapTells (net : NetLists) (r : Fraction) (p : PlaceId) (gap : ℕ) : Type 0 where
  pub critical : (gap ≡ 0) ↔ IsCritical net r p
  pub slack : 0 < gap → IsSlack net r p (gap / r.tokens)

-- gaps to the greatest ratio tell slacks
abbrev pub GapsTellSlacks : Type 0
GapsTellSlacks = (net : NetLists) (r : Fraction) (p : PlaceId) (gap : ℕ) → IsGreatestRatio net IsAnyPlace r → p.index < length net.places → IsGap net r p gap → GapTells net r p gap

-- a place has one slack
abbrev pub SlacksAreOne : Type 0
SlacksAreOne = (net : NetLists) (r : Fraction) (p : PlaceId) (s q : Slack) → IsSlackOf net r p s → IsSlackOf net r p q → s ≡ q

-- the slack of a place does not depend on how the greatest ratio is written
abbrev pub SlacksAreOfTheNet : Type 0
SlacksAreOfTheNet = (net : NetLists) (r q : Fraction) → IsGreatestRatio net IsAnyPlace r → IsGreatestRatio net IsAnyPlace q
    → (p : PlaceId) → p.index < length net.places → (s : Slack) → IsSlackOf net r p s → IsSlackOf net q p s
