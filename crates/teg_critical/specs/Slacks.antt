-- Critical places and slack: by how much a hold may rise without a slower cycle (chapters 2 and 3).
use Rattle.std.specs.Prelude.{ℕ, ◌+◌, ◌*◌, ◌<◌, ◌≤◌, ◌≡◌, List, length, slice_index_or, slice_set, Contains}
use Rattle.teg_net.specs.declared.entries.PlaceId.{PlaceId}
use Rattle.teg_net.specs.declared.entries.Place.{Place}
use Rattle.teg_net.specs.Nets.{NetLists, lists_of}
use Rattle.teg_net.specs.Ratios.{Fraction}
use Rattle.teg_net.specs.Circuits.{place_at, IsCircuit, time_of, tokens_of}
use Rattle.teg_net.specs.GreatestRatios.{IsGreatestRatio, IsAnyPlace}
use Rattle.teg_critical.specs.declared.slacks.Slack.{Slack}
use Rattle.teg_critical.specs.declared.slacks.Slack.TheVariants.{NoCircuit, Critical, Rise}

-- some circuit passes the place
abbrev pub IsOnCircuit : NetLists → PlaceId → Type 0
IsOnCircuit net p = (ps : List PlaceId) × IsCircuit net ps × Contains ps p

-- a circuit of this ratio passes the place
abbrev pub IsCritical : NetLists → Fraction → PlaceId → Type 0
IsCritical net r p = (ps : List PlaceId) × IsCircuit net ps × Contains ps p × (time_of net ps * r.tokens ≡ r.time * tokens_of net ps)

-- the place with its hold raised by d
abbrev pub raised_place : ℕ → Place → Place
raised_place d p = record p { hold = p.hold + d }

-- the net with the hold of the place raised by d, without regard to the limit on holds
abbrev pub raised : NetLists → PlaceId → ℕ → NetLists
raised net p d = lists_of net.transitions (slice_set net.places p.index (raised_place d (place_at net p))) net.inputs

-- the greatest rise of the hold after which this is the greatest ratio of the net
pub record IsSlack (net : NetLists) (r : Fraction) (p : PlaceId) (d : ℕ) : Type 0 where
  pub same : IsGreatestRatio (raised net p d) IsAnyPlace r
  pub most : (e : ℕ) → IsGreatestRatio (raised net p e) IsAnyPlace r → e ≤ d

-- what a place is told where r is the greatest ratio of the net
abbrev pub IsSlackOf : NetLists → Fraction → PlaceId → Slack → Type 0
IsSlackOf net r p NoCircuit = IsOnCircuit net p → ⊥
IsSlackOf net r p Critical = IsCritical net r p
IsSlackOf net r p (Rise by) = IsOnCircuit net p × (IsCritical net r p → ⊥) × IsSlack net r p by

-- each place of the net is told so, in order
pub record AreSlacks (net : NetLists) (r : Fraction) (slacks : List Slack) : Type 0 where
  pub each : length slacks ≡ length net.places
  pub told : (p : PlaceId) → p.index < length net.places → IsSlackOf net r p (slice_index_or slacks p.index NoCircuit)
