-- Working definitions of the check of a certificate.
use Rattle.std.specs.Prelude.{ℕ, pos, ◌*◌, ◌<◌, ◌≤◌, ◌≡◌, ◌+ℤ◌, ◌-ℤ◌, ◌≤ℤ◌, List, Option, Some, length, All, AllPairs, Any, slice_index, slice_index_or}
use Rattle.teg_net.specs.declared.entries.PlaceId.{PlaceId}
use Rattle.teg_net.specs.declared.entries.Place.{Place}
use Rattle.teg_net.specs.declared.answers.Potential.{Potential}
use Rattle.teg_net.specs.declared.answers.PartAnswer.{PartAnswer}
use Rattle.teg_net.specs.declared.answers.PartAnswer.TheVariants.{NoCircuit}
use Rattle.teg_net.specs.Limits.{greatest_checked_potential}
use Rattle.teg_net.specs.Nets.{NetLists}
use Rattle.teg_net.specs.Ratios.{Fraction, IsRatioWithin}
use Rattle.teg_net.specs.Circuits.{IsCircuit, time_of, tokens_of}
use Rattle.teg_net.specs.Parts.{IsMember, IsPlaceOfPart}
use Rattle.teg_net.specs.ReducedTimes.{IsMagnitudeWithin}
use Rattle.teg_net.specs.GreatestRatios.{ratio_in, IsFirstGreatest}
use Rattle.teg_net.specs.Certificates.{potential_at, ArePotentials, IsPartCertificate}

-- the numbers of transitions are those of parts, and never fall along a place
pub record AreNumbersOf (net : NetLists) (part_of : List ℕ) (count : ℕ) : Type 0 where
  pub long : length part_of ≡ length net.transitions
  pub below : All (λ k. k < count) part_of
  pub rises : All (λ p. slice_index part_of p.from.index ≤ slice_index part_of p.to.index) net.places

-- a circuit with a token in the part that has the ratio
pub record HasRatio (net : NetLists) (part_of : List ℕ) (part : ℕ) (r : Fraction) (c : List PlaceId) : Type 0 where
  pub circuit : IsCircuit net c
  pub inside : All (IsPlaceOfPart net part_of part) c
  pub attains : time_of net c * r.tokens ≡ r.time * tokens_of net c
  pub token : 1 ≤ tokens_of net c

-- a potential is told of the transition
abbrev pub HasPotentialTold : List Potential → ℕ → Type 0
HasPotentialTold vs t = Any (λ v. v.transition.index ≡ t) vs

-- a potential is told of each member of the part, in order of number, and of no other transition
pub record TellsMembers (part_of : List ℕ) (part : ℕ) (vs : List Potential) : Type 0 where
  pub ordered : AllPairs (λ v w. v.transition.index < w.transition.index) vs
  pub only : All (λ v. IsMember part_of part v.transition.index) vs
  pub all : (t : ℕ) → IsMember part_of part t → HasPotentialTold vs t

-- a place of the part does not lift its end above the potential there
abbrev pub KeepsPotential : List ℕ → ℕ → Fraction → List Potential → Place → Type 0
KeepsPotential part_of part r vs p =
    IsMember part_of part p.from.index → IsMember part_of part p.to.index
    → ((pos (r.tokens * p.hold) -ℤ pos (r.time * p.tokens)) +ℤ potential_at vs p.from.index) ≤ℤ potential_at vs p.to.index

-- potentials of the members, within limits, that no place of the part exceeds
pub record FitsPotentials (net : NetLists) (part_of : List ℕ) (part : ℕ) (r : Fraction) (vs : List Potential) : Type 0 where
  pub members : TellsMembers part_of part vs
  pub within : All (λ v. IsMagnitudeWithin greatest_checked_potential v.value) vs
  pub kept : ArePotentials net part_of part r vs

-- the conditions of a certificate of a part with a circuit, as they are checked
pub record FitsBest (net : NetLists) (part_of : List ℕ) (part : ℕ) (r : Fraction) (c : List PlaceId) (vs : List Potential) : Type 0 where
  pub limits : IsRatioWithin r
  pub attained : HasRatio net part_of part r c
  pub potentials : FitsPotentials net part_of part r vs

-- each part's answer is a certificate
abbrev pub ArePartCertificates : NetLists → List ℕ → List PartAnswer → Type 0
ArePartCertificates net part_of answers = (k : ℕ) → k < length answers → IsPartCertificate net part_of k (slice_index_or answers k NoCircuit)

-- the ratio that the answer tells, if it tells one, is at most this one
abbrev pub IsNotAbove : Fraction → PartAnswer → Type 0
IsNotAbove r answer = (q : Fraction) → ratio_in answer ≡ Some q → q.time * r.tokens ≤ r.time * q.tokens

-- the ratio that the answer tells, if it tells one, is smaller than this one
abbrev pub IsBelow : Fraction → PartAnswer → Type 0
IsBelow r answer = (q : Fraction) → ratio_in answer ≡ Some q → q.time * r.tokens < r.time * q.tokens

-- the conditions of a certificate, as they are checked
pub record FitsLists (net : NetLists) (part_of : List ℕ) (answers : List PartAnswer) (named : Option ℕ) : Type 0 where
  pub numbers : AreNumbersOf net part_of (length answers)
  pub parts : ArePartCertificates net part_of answers
  pub best : IsFirstGreatest answers named
