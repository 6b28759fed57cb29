-- Potentials of a part that a place meets at each member, the eigenvectors of the part, and its greatest ratio (chapters 2 and 3).
use Rattle.std.specs.Prelude.{ℕ, ℤ, pos, ◌+◌, ◌*◌, ◌≤◌, ◌≡◌, ◌+ℤ◌, ◌≤ℤ◌, List, length, All, ◌↔◌}
use Rattle.teg_net.specs.declared.entries.PlaceId.{PlaceId}
use Rattle.teg_net.specs.declared.answers.Potential.{Potential}
use Rattle.teg_net.specs.Nets.{NetLists}
use Rattle.teg_net.specs.Ratios.{Fraction}
use Rattle.teg_net.specs.Circuits.{IsCircuit, IsLive, place_at, from_of, time_of, tokens_of}
use Rattle.teg_net.specs.Parts.{to_of, IsMember, IsPlaceOfPart}
use Rattle.teg_net.specs.ReducedTimes.{reduced_time}
use Rattle.teg_net.specs.GreatestRatios.{IsGreatestRatio}
use Rattle.teg_net.specs.PartAnswers.{IsBestOfPart}
use Rattle.teg_net.specs.Certificates.{potential_at}
use Rattle.teg_parts.specs.Partitions.{AreStrong}
use Rattle.teg_loops.specs.Loops.{EndsBelow}

-- what a place offers its end at the ratio a / b: its reduced time and the potential of its start
abbrev pub offered : NetLists → ℕ → ℕ → (ℕ → ℤ) → PlaceId → ℤ
offered net a b v p = reduced_time net a b p +ℤ v (from_of net p)

-- a place of the part into the transition, which offers it just its potential
pub record IsTightInto (net : NetLists) (part_of : List ℕ) (part a b : ℕ) (v : ℕ → ℤ) (t : ℕ) (p : PlaceId) : Type 0 where
  pub inside : IsPlaceOfPart net part_of part p
  pub into : to_of net p ≡ t
  pub tight : v t ≡ offered net a b v p

-- the potential of each member of the part is the greatest that a place of the part offers it
pub record AreTightPotentials (net : NetLists) (part_of : List ℕ) (part a b : ℕ) (v : ℕ → ℤ) : Type 0 where
  pub none_above : (p : PlaceId) → IsPlaceOfPart net part_of part p → offered net a b v p ≤ℤ v (to_of net p)
  pub met : (t : ℕ) → IsMember part_of part t → (p : PlaceId) × IsTightInto net part_of part a b v t p

-- the potentials told of a part, the greatest reduced times of paths from its circuit, are tight at its ratio
abbrev pub BestPotentialsAreTight : Type 0
BestPotentialsAreTight =
    (net : NetLists) (part_of : List ℕ) (part : ℕ) (r : Fraction) (c : List PlaceId) (vs : List Potential)
    → IsBestOfPart net part_of part r c vs → AreTightPotentials net part_of part r.time r.tokens (potential_at vs)

-- a ratio at which a part of a live net with a member has tight potentials is its greatest, and has a circuit
abbrev pub TightPotentialsTellTheRatio : Type 0
TightPotentialsTellTheRatio =
    (net : NetLists) (part_of : List ℕ) (part t a b : ℕ) (v : ℕ → ℤ) → IsLive net → IsMember part_of part t → 1 ≤ b
    → AreTightPotentials net part_of part a b v → IsGreatestRatio net (IsPlaceOfPart net part_of part) (record { time = a; tokens = b })

-- where the numbers are those of strong parts, a part has tight potentials at its greatest ratio
abbrev pub TightPotentialsExist : Type 0
TightPotentialsExist =
    (net : NetLists) (part_of : List ℕ) (part : ℕ) (r : Fraction) → EndsBelow net (length net.transitions) → AreStrong net part_of
    → IsGreatestRatio net (IsPlaceOfPart net part_of part) r
    → (v : ℕ → ℤ) × AreTightPotentials net part_of part r.time r.tokens v

-- and at no other: a ratio is the greatest of a strong part of a live net just where the part has tight potentials at it
abbrev pub TightJustAtTheRatio : Type 0
TightJustAtTheRatio =
    (net : NetLists) (part_of : List ℕ) (part t a b : ℕ) → EndsBelow net (length net.transitions) → IsLive net → AreStrong net part_of → IsMember part_of part t → 1 ≤ b
    → ((v : ℕ → ℤ) × AreTightPotentials net part_of part a b v) ↔ IsGreatestRatio net (IsPlaceOfPart net part_of part) (record { time = a; tokens = b })

-- at no other ratio has the part of a live net tight potentials
abbrev pub TightRatiosAreOne : Type 0
TightRatiosAreOne =
    (net : NetLists) (part_of : List ℕ) (part t a b c d : ℕ) (v w : ℕ → ℤ) → IsLive net → IsMember part_of part t → 1 ≤ b → 1 ≤ d
    → AreTightPotentials net part_of part a b v → AreTightPotentials net part_of part c d w → a * d ≡ c * b

-- a circuit of the part that has the ratio
pub record IsCriticalIn (net : NetLists) (part_of : List ℕ) (part a b : ℕ) (c : List PlaceId) : Type 0 where
  pub circuit : IsCircuit net c
  pub inside : All (IsPlaceOfPart net part_of part) c
  pub attains : time_of net c * b ≡ a * tokens_of net c

-- potentials that no place exceeds, tight or not, are just met along a circuit that has the ratio
abbrev pub CriticalPlacesAreTight : Type 0
CriticalPlacesAreTight =
    (net : NetLists) (part_of : List ℕ) (part a b : ℕ) (v : ℕ → ℤ) → ((p : PlaceId) → IsPlaceOfPart net part_of part p → offered net a b v p ≤ℤ v (to_of net p))
    → (c : List PlaceId) → IsCriticalIn net part_of part a b c → All (λ p. IsTightInto net part_of part a b v (to_of net p) p) c

-- tight potentials that are equal at the transitions of these circuits are equal at each member
abbrev pub CriticalTransitionsTell : Type 0
CriticalTransitionsTell =
    (net : NetLists) (part_of : List ℕ) (part a b : ℕ) (v w : ℕ → ℤ)
    → AreTightPotentials net part_of part a b v → AreTightPotentials net part_of part a b w
    → ((c : List PlaceId) → IsCriticalIn net part_of part a b c → All (λ p. v (from_of net p) ≡ w (from_of net p)) c) → (t : ℕ) → IsMember part_of part t → v t ≡ w t

-- the date of firing k that goes by the potentials, multiplied by the ratio's tokens: the potential, and the ratio's time for each firing
abbrev pub paced_date : ℕ → (ℕ → ℤ) → ℕ → ℕ → ℤ
paced_date a v t k = v t +ℤ pos (a * k)

-- these dates keep each place of the part at each firing, and each member has a place into it that it just keeps, at each firing
pub record ArePacedDates (net : NetLists) (part_of : List ℕ) (part a b : ℕ) (v : ℕ → ℤ) : Type 0 where
  pub kept : (p : PlaceId) (k : ℕ) → IsPlaceOfPart net part_of part p
      → (paced_date a v (from_of net p) k +ℤ pos (b * (place_at net p).hold)) ≤ℤ paced_date a v (to_of net p) (k + (place_at net p).tokens)
  pub met : (t : ℕ) → IsMember part_of part t → (p : PlaceId) × IsPlaceOfPart net part_of part p × (to_of net p ≡ t)
      × ((k : ℕ) → paced_date a v t (k + (place_at net p).tokens) ≡ (paced_date a v (from_of net p) k +ℤ pos (b * (place_at net p).hold)))

-- tight potentials are the first of dates that go on by the ratio
abbrev pub TightPotentialsArePaced : Type 0
TightPotentialsArePaced =
    (net : NetLists) (part_of : List ℕ) (part a b : ℕ) (v : ℕ → ℤ) → AreTightPotentials net part_of part a b v → ArePacedDates net part_of part a b v
