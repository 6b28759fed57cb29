-- What the answer of a part tells: its greatest ratio, a circuit that has it, and potentials (chapters 2 and 3).
use Rattle.std.specs.Prelude.{ℕ, ◌*◌, ◌<◌, ◌≤◌, ◌≡◌, List, length, All, map, slice_index_or}
use Rattle.teg_net.specs.declared.entries.PlaceId.{PlaceId}
use Rattle.teg_net.specs.declared.answers.Potential.{Potential}
use Rattle.teg_net.specs.declared.answers.PartAnswer.{PartAnswer}
use Rattle.teg_net.specs.declared.answers.PartAnswer.TheVariants.{NoCircuit, Best}
use Rattle.teg_net.specs.Nets.{NetLists}
use Rattle.teg_net.specs.Ratios.{Fraction, IsLowestTerms}
use Rattle.teg_net.specs.Circuits.{from_of, IsCircuit, BeginsLowest, time_of, tokens_of}
use Rattle.teg_net.specs.Parts.{IsPlaceOfPart, ListsMembers}
use Rattle.teg_net.specs.ReducedTimes.{IsGreatestPathTime}
use Rattle.teg_net.specs.GreatestRatios.{IsGreatestRatio, HasNoCircuit}

-- the transition at which a list of places begins
abbrev pub first_transition_of : NetLists → List PlaceId → ℕ
first_transition_of net ps = from_of net (slice_index_or ps 0 (record { index = 0 }))

-- the transitions of which potentials are told
abbrev pub transitions_of : List Potential → List ℕ
transitions_of vs = map (λ v. v.transition.index) vs

-- the part's greatest ratio, a circuit with a token that has it, told from its lowest numbered transition on, and for each member
-- the greatest reduced time of the paths in the part that lead there from where the circuit begins
pub record IsBestOfPart (net : NetLists) (part_of : List ℕ) (part : ℕ) (r : Fraction) (c : List PlaceId) (vs : List Potential) : Type 0 where
  pub greatest : IsGreatestRatio net (IsPlaceOfPart net part_of part) r
  pub terms : IsLowestTerms r
  pub circuit : IsCircuit net c
  pub inside : All (IsPlaceOfPart net part_of part) c
  pub attains : time_of net c * r.tokens ≡ r.time * tokens_of net c
  pub token : 1 ≤ tokens_of net c
  pub lowest_first : BeginsLowest net c
  pub members : ListsMembers part_of part (transitions_of vs)
  pub sums : All (λ v. IsGreatestPathTime net part_of part r.time r.tokens (first_transition_of net c) v.transition.index v.value) vs

-- no circuit lies in the part, or its greatest ratio is told
abbrev pub IsPartAnswer : NetLists → List ℕ → ℕ → PartAnswer → Type 0
IsPartAnswer net part_of part NoCircuit = HasNoCircuit net (IsPlaceOfPart net part_of part)
IsPartAnswer net part_of part (Best ratio circuit potentials) = IsBestOfPart net part_of part ratio circuit.places.items potentials.items

-- each part has its answer, in order
abbrev pub ArePartAnswers : NetLists → List ℕ → List PartAnswer → Type 0
ArePartAnswers net part_of answers = (k : ℕ) → k < length answers → IsPartAnswer net part_of k (slice_index_or answers k NoCircuit)
