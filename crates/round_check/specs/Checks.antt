-- Working definitions of the check of a round.
use Rattle.std.specs.Prelude.{ℕ, ℤ, pos, ◌+ℤ◌, ◌*◌, ◌<◌, ◌≤◌, ◌≡◌, ◌==◌, if◌then◌else◌, List, All, length}
use Rattle.teg_net.specs.declared.rounds.Choice.{Choice}
use Rattle.teg_net.specs.declared.entries.PlaceId.{PlaceId}
use Rattle.teg_net.specs.Nets.{NetLists}
use Rattle.teg_net.specs.Circuits.{IsCircuit, from_of, time_of, tokens_of}
use Rattle.teg_net.specs.Parts.{IsPlaceOfPart, ListsMembers, to_of}
use Rattle.teg_net.specs.PartAnswers.{first_transition_of}
use Rattle.teg_net.specs.Ratios.{Fraction}
use Rattle.teg_net.specs.ReducedTimes.{reduced_time}
use Rattle.policy_rounds.specs.Policies.{Enters}
use Rattle.policy_rounds.specs.PolicyRounds.{choice_of_member, chosen_for, chosen_place, value_in}

-- each choice is of a place of the part that enters its transition
abbrev pub AreEntered : NetLists → List ℕ → ℕ → List Choice → Type 0
AreEntered net parts part cs = All (λ c. Enters net parts part c.transition.index c.place) cs

-- each place of the circuit lies in the part and is the one that is chosen for its end
abbrev pub AreChosen : NetLists → List ℕ → ℕ → List Choice → List PlaceId → Type 0
AreChosen net parts part cs ps = All (λ p. IsPlaceOfPart net parts part p × (chosen_place (choice_of_member cs (to_of net p)) ≡ p)) ps

-- the potential that a choice tells: 0 at the root, and elsewhere the reduced time of its place plus the potential of its start
abbrev pub sum_told : NetLists → Fraction → List Choice → ℕ → Choice → ℤ
sum_told net r cs root c =
    if c.transition.index == root then pos 0 else (reduced_time net r.time r.tokens c.place +ℤ value_in (choice_of_member cs (from_of net c.place)))

-- each choice tells such a potential
abbrev pub AreSumsTold : NetLists → Fraction → List Choice → ℕ → Type 0
AreSumsTold net r cs root = All (λ c. c.value ≡ sum_told net r cs root c) cs

-- each choice is of a place of the net
abbrev pub IsInRangeAt : NetLists → List Choice → Type 0
IsInRangeAt net cs = All (λ c. c.place.index < length net.places) cs

-- one choice for each member of the part, in order, each of a place of the part that enters it
pub record AreChoicesOf (net : NetLists) (parts : List ℕ) (part : ℕ) (cs : List Choice) : Type 0 where
  pub members : ListsMembers parts part (chosen_for cs)
  pub entered : AreEntered net parts part cs

-- the circuit begins at its lowest numbered transition, each place of it is the one that is chosen for its end, and it has the ratio
pub record IsOwnCircuit (net : NetLists) (parts : List ℕ) (part : ℕ) (ratio : Fraction) (cs : List Choice) (c : List PlaceId) : Type 0 where
  pub lowest_first : All (λ p. first_transition_of net c ≤ from_of net p) c
  pub own : AreChosen net parts part cs c
  pub same : time_of net c * ratio.tokens ≡ ratio.time * tokens_of net c

-- the places are such a circuit
pub record IsCircuitTold (net : NetLists) (parts : List ℕ) (part : ℕ) (ratio : Fraction) (cs : List Choice) (c : List PlaceId) : Type 0 where
  pub circuit : IsCircuit net c
  pub told : IsOwnCircuit net parts part ratio cs c

-- the places are such a circuit, and each choice tells its potential from where it begins
pub record FitsCircuit (net : NetLists) (parts : List ℕ) (part : ℕ) (ratio : Fraction) (cs : List Choice) (c : List PlaceId) : Type 0 where
  pub circuit : IsCircuitTold net parts part ratio cs c
  pub sums : AreSumsTold net ratio cs (first_transition_of net c)

-- the conditions of a round, as they are checked
pub record FitsRound (net : NetLists) (parts : List ℕ) (part : ℕ) (ratio : Fraction) (cs : List Choice) (c : List PlaceId) : Type 0 where
  pub choices : AreChoicesOf net parts part cs
  pub fits : FitsCircuit net parts part ratio cs c
