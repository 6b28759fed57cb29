-- What shows the slack of a place: circuits that pass it, potentials, and numbers that its ends differ in (chapters 2 and 3).
use Rattle.std.specs.Prelude.{ℕ, ℤ, pos, ◌+◌, ◌*◌, ◌<◌, ◌≤◌, ◌≡◌, ◌==◌, ◌+ℤ◌, ◌-ℤ◌, ◌≤ℤ◌, if◌then◌else◌, max, List, Some, length, All, Contains, slice_index, slice_index_or}
use Rattle.teg_net.specs.declared.entries.PlaceId.{PlaceId}
use Rattle.teg_net.specs.declared.entries.Place.{Place}
use Rattle.teg_net.specs.declared.answers.CycleAnswer.{CycleAnswer}
use Rattle.teg_net.specs.Limits.{greatest_checked_potential}
use Rattle.teg_net.specs.Nets.{NetLists, HasEndsInRange}
use Rattle.teg_net.specs.Ratios.{Fraction, IsRatioWithin}
use Rattle.teg_net.specs.Circuits.{place_at, from_of, IsCircuit, time_of, tokens_of}
use Rattle.teg_net.specs.Parts.{to_of}
use Rattle.teg_net.specs.ReducedTimes.{IsMagnitudeWithin}
use Rattle.teg_net.specs.GreatestRatios.{IsGreatestRatio, IsAnyPlace}
use Rattle.teg_net.specs.Certificates.{IsCertificate}
use Rattle.teg_certificates.specs.BestRatios.{best_ratio_of}

-- a circuit that passes the place and has the ratio
pub record IsCriticalCircuit (net : NetLists) (r : Fraction) (p : PlaceId) (ps : List PlaceId) : Type 0 where
  pub circuit : IsCircuit net ps
  pub passes : Contains ps p
  pub attains : time_of net ps * r.tokens ≡ r.time * tokens_of net ps

-- a circuit that passes the place and is above the ratio where the hold of the place is longer by so much
pub record IsAboveWhenRaised (net : NetLists) (r : Fraction) (p : PlaceId) (by : ℕ) (ps : List PlaceId) : Type 0 where
  pub circuit : IsCircuit net ps
  pub passes : Contains ps p
  pub above : r.time * tokens_of net ps < (time_of net ps + by) * r.tokens

-- what the reduced time of place q gains where the hold of place p rises by so much: at p at least 1, elsewhere nothing
abbrev pub gain_at : Fraction → PlaceId → ℕ → PlaceId → ℕ
gain_at r p by q = if q.index == p.index then max 1 (r.tokens * by) else 0

-- the place, with this gain, does not lift its end above the potential there
abbrev pub LiftsNoneWith : Fraction → List ℤ → ℕ → Place → Type 0
LiftsNoneWith r vs gain place =
    ((pos (r.tokens * place.hold) -ℤ pos (r.time * place.tokens)) +ℤ slice_index_or vs place.from.index (pos 0)) ≤ℤ (slice_index_or vs place.to.index (pos 0) -ℤ pos gain)

-- potentials, one for each transition, above which no place lifts its end where place p has its gain, within limits
pub record AreRisePotentials (net : NetLists) (r : Fraction) (p : PlaceId) (by : ℕ) (vs : List ℤ) : Type 0 where
  pub limits : IsRatioWithin r
  pub count : length vs ≡ length net.transitions
  pub within : All (IsMagnitudeWithin greatest_checked_potential) vs
  pub kept : (q : PlaceId) → q.index < length net.places → LiftsNoneWith r vs (gain_at r p by q) (place_at net q)

-- potentials show that the hold of the place may rise by so much, and a circuit that one more is too much
pub record IsRiseShown (net : NetLists) (r : Fraction) (p : PlaceId) (by : ℕ) (ps : List PlaceId) (vs : List ℤ) : Type 0 where
  pub potentials : AreRisePotentials net r p by vs
  pub beyond : IsAboveWhenRaised net r p (by + 1) ps

-- where the hold of the place is longer by so much, no circuit that passes it is above the ratio, and as it is each is below
pub record MayRise (net : NetLists) (r : Fraction) (p : PlaceId) (by : ℕ) : Type 0 where
  pub kept : (ps : List PlaceId) → IsCircuit net ps → Contains ps p → (time_of net ps + by) * r.tokens ≤ r.time * tokens_of net ps
  pub below : (ps : List PlaceId) → IsCircuit net ps → Contains ps p → time_of net ps * r.tokens < r.time * tokens_of net ps

-- one number for each transition, which never falls along a place and rises along this one
pub record RiseAtPlace (net : NetLists) (numbers : List ℕ) (p : PlaceId) : Type 0 where
  pub count : length numbers ≡ length net.transitions
  pub never_falls : All (λ q. slice_index numbers q.from.index ≤ slice_index numbers q.to.index) net.places
  pub in_range : p.index < length net.places
  pub here : slice_index numbers (from_of net p) < slice_index numbers (to_of net p)

-- a circuit that has the ratio of the best part of a certified answer has the greatest ratio of the net, and passes the place
abbrev pub CriticalCircuitsTell : Type 0
CriticalCircuitsTell =
    (net : NetLists) (answer : CycleAnswer) → HasEndsInRange net → IsCertificate net answer → (r : Fraction) → best_ratio_of answer ≡ Some r
    → (p : PlaceId) (ps : List PlaceId) → IsCriticalCircuit net r p ps
    → IsGreatestRatio net IsAnyPlace r
    × ((qs : List PlaceId) × IsCircuit net qs × Contains qs p × (time_of net qs * r.tokens ≡ r.time * tokens_of net qs))

-- such potentials show that the hold may rise so
abbrev pub RisePotentialsTell : Type 0
RisePotentialsTell = (net : NetLists) (r : Fraction) (p : PlaceId) (by : ℕ) (vs : List ℤ) → AreRisePotentials net r p by vs → MayRise net r p by

-- no circuit passes a place along which such numbers rise
abbrev pub RisingNumbersShowNoCircuit : Type 0
RisingNumbersShowNoCircuit =
    (net : NetLists) (numbers : List ℕ) (p : PlaceId) → HasEndsInRange net → RiseAtPlace net numbers p → (ps : List PlaceId) → IsCircuit net ps → Contains ps p → ⊥
