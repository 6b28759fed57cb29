-- Working definitions of how each place is told its slack.
use Rattle.std.specs.Prelude.{ℕ, ◌/◌, ◌<◌, ◌≤◌, ◌≡◌, List, length, Option, None, Some, slice_index_or, replicate, All}
use Rattle.teg_net.specs.declared.entries.PlaceId.{PlaceId}
use Rattle.teg_net.specs.declared.answers.CycleAnswer.{CycleAnswer}
use Rattle.teg_net.specs.Nets.{NetLists, IsNet}
use Rattle.teg_net.specs.Ratios.{Fraction, IsRatioWithin}
use Rattle.teg_net.specs.Circuits.{IsLive}
use Rattle.teg_net.specs.GreatestRatios.{IsGreatestRatio, IsAnyPlace}
use Rattle.teg_net.specs.Certificates.{IsCertificate}
use Rattle.teg_critical.specs.declared.endings.Ending.{Ending}
use Rattle.teg_critical.specs.declared.losses.Loss.{Loss}
use Rattle.teg_critical.specs.declared.slacks.Slack.{Slack}
use Rattle.teg_critical.specs.declared.slacks.Slack.TheVariants.{NoCircuit, Critical, Rise}
use Rattle.teg_critical.specs.Slacks.{IsSlackOf}
use Rattle.teg_critical.specs.Gaps.{IsGap}
use Rattle.teg_critical.specs.Losses.{most_gap, AreLosses}

-- the gap of the place, which is not great
pub record IsGapWithin (net : NetLists) (r : Fraction) (p : PlaceId) (gap : ℕ) : Type 0 where
  pub is : IsGap net r p gap
  pub low : gap ≤ most_gap

-- the slack that a gap tells, and no circuit where there is none
abbrev pub IsSlackOfGap : Option ℕ → Fraction → Slack → Type 0
IsSlackOfGap None r s = s ≡ NoCircuit
IsSlackOfGap (Some gap) r NoCircuit = ⊥
IsSlackOfGap (Some gap) r Critical = gap ≡ 0
IsSlackOfGap (Some gap) r (Rise by) = (0 < gap) × (by ≡ gap / r.tokens)

-- the losses are those of a certified answer, against the greatest ratio of a live net
pub record CanTellSlack (net : NetLists) (r : Fraction) (losses : List (Option Loss)) : Type 0 where
  pub answer : CycleAnswer
  pub certificate : IsCertificate net answer
  pub lost : AreLosses net answer r losses
  pub live : IsLive net
  pub greatest : IsGreatestRatio net IsAnyPlace r
  pub rules : IsNet net
  pub small : IsRatioWithin r

-- what is told of the place
abbrev pub slack_at : List Slack → PlaceId → Slack
slack_at slacks p = slice_index_or slacks p.index NoCircuit

-- these places are told their slack, and what was told rightly before still is
pub record AreToldMore (net : NetLists) (r : Fraction) (endings : List Ending) (old new : List Slack) : Type 0 where
  pub count : length new ≡ length old
  pub told : All (λ e. IsSlackOf net r e.place (slack_at new e.place)) endings
  pub kept : (p : PlaceId) → IsSlackOf net r p (slack_at old p) → IsSlackOf net r p (slack_at new p)

-- no place is told anything yet
abbrev pub AreUntold : NetLists → List Slack → Type 0
AreUntold net slacks = slacks ≡ replicate (length net.places) NoCircuit
