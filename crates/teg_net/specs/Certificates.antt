-- What makes an answer on cycle times a certificate: conditions on the answer and the net alone, which a short check
-- decides. They show that the ratio told is the greatest over all circuits (chapters 2 and 3).
use Rattle.std.specs.Prelude.{ℕ, ℤ, pos, ◌+ℤ◌, ◌≤ℤ◌, ◌*◌, ◌<◌, ◌≤◌, ◌≡◌, ◌==◌, if◌then◌else◌, List, [], ◌∷◌, length, All, slice_index, slice_index_or}
use Rattle.teg_net.specs.declared.entries.PlaceId.{PlaceId}
use Rattle.teg_net.specs.declared.answers.Potential.{Potential}
use Rattle.teg_net.specs.declared.answers.PartAnswer.{PartAnswer}
use Rattle.teg_net.specs.declared.answers.PartAnswer.TheVariants.{NoCircuit, Best}
use Rattle.teg_net.specs.declared.answers.CycleAnswer.{CycleAnswer}
use Rattle.teg_net.specs.Limits.{greatest_checked_ratio, greatest_checked_potential}
use Rattle.teg_net.specs.Nets.{NetLists}
use Rattle.teg_net.specs.Ratios.{Fraction, IsLowestTerms}
use Rattle.teg_net.specs.Circuits.{from_of, IsCircuit, time_of, tokens_of}
use Rattle.teg_net.specs.Parts.{to_of, IsPlaceOfPart, ListsMembers}
use Rattle.teg_net.specs.ReducedTimes.{reduced_time, IsMagnitudeWithin}
use Rattle.teg_net.specs.GreatestRatios.{IsFirstGreatest}
use Rattle.teg_net.specs.PartAnswers.{transitions_of}

-- the potential of a transition, 0 where none is told
abbrev pub potential_at : List Potential → ℕ → ℤ
potential_at [] t = pos 0
potential_at (v ∷ vs) t = if v.transition.index == t then v.value else potential_at vs t

-- no place of the part lifts its end above the potential there
abbrev pub ArePotentials : NetLists → List ℕ → ℕ → Fraction → List Potential → Type 0
ArePotentials net part_of part r vs =
    (p : PlaceId) → IsPlaceOfPart net part_of part p → (reduced_time net r.time r.tokens p +ℤ potential_at vs (from_of net p)) ≤ℤ potential_at vs (to_of net p)

-- a ratio of a circuit with a token in the part, and potentials of its members that no place exceeds, within limits; each ratio is in
-- lowest terms
pub record IsBestCertificate (net : NetLists) (part_of : List ℕ) (part : ℕ) (r : Fraction) (c : List PlaceId) (vs : List Potential) : Type 0 where
  pub time_in : r.time ≤ greatest_checked_ratio
  pub tokens_in : r.tokens ≤ greatest_checked_ratio
  pub terms : IsLowestTerms r
  pub circuit : IsCircuit net c
  pub inside : All (IsPlaceOfPart net part_of part) c
  pub attains : time_of net c * r.tokens ≡ r.time * tokens_of net c
  pub token : 1 ≤ tokens_of net c
  pub members : ListsMembers part_of part (transitions_of vs)
  pub within : All (λ v. IsMagnitudeWithin greatest_checked_potential v.value) vs
  pub potentials : ArePotentials net part_of part r vs

-- no place has both ends in the part, or its ratio is certified
abbrev pub IsPartCertificate : NetLists → List ℕ → ℕ → PartAnswer → Type 0
IsPartCertificate net part_of part NoCircuit = (p : PlaceId) → IsPlaceOfPart net part_of part p → ⊥
IsPartCertificate net part_of part (Best ratio circuit potentials) = IsBestCertificate net part_of part ratio circuit.places.items potentials.items

-- numbers of parts that never fall along a place, a certificate of each part, and the first part of greatest ratio
pub record IsCertificate (net : NetLists) (answer : CycleAnswer) : Type 0 where
  pub count : length answer.part_of.items ≡ length net.transitions
  pub below : All (λ k. k < length answer.parts.items) answer.part_of.items
  pub rises : All (λ p. slice_index answer.part_of.items p.from.index ≤ slice_index answer.part_of.items p.to.index) net.places
  pub parts : (k : ℕ) → k < length answer.parts.items → IsPartCertificate net answer.part_of.items k (slice_index_or answer.parts.items k NoCircuit)
  pub best : IsFirstGreatest answer.parts.items answer.best
