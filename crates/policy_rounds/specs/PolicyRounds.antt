-- Policy runs: lists of rounds of which each follows from the one before.
use Rattle.std.specs.Prelude.{ℕ, ℤ, pos, ◌+◌, ◌-◌, ◌<◌, ◌≤◌, ◌≡◌, ◌==◌, if◌then◌else◌, ◌⊎◌, List, [], ◌∷◌, length, Any, map, Option, Some, None, slice_index_or}
use Rattle.teg_net.specs.declared.entries.PlaceId.{PlaceId}
use Rattle.teg_net.specs.Nets.{NetLists}
use Rattle.teg_net.specs.Circuits.{BeginsLowest, time_of, tokens_of}
use Rattle.teg_net.specs.Ratios.{IsRatioOf}
use Rattle.teg_net.specs.declared.rounds.Choice.{Choice}
use Rattle.teg_net.specs.declared.rounds.Round.{Round}
use Rattle.teg_net.specs.Parts.{IsMember, to_of, ListsMembers}
use Rattle.policy_rounds.specs.Policies.{Policy, IsPolicy, Enters, IsPolicyCircuit, IsBestCircuit, IsRouting, AreSums, Improves, IsImprovement, IsChanged, first_id}
use Rattle.teg_net.specs.PartAnswers.{first_transition_of}

-- the choice for a transition
abbrev pub choice_of_member : List Choice → ℕ → Option Choice
choice_of_member [] t = None
choice_of_member (c ∷ cs) t = if c.transition.index == t then Some c else choice_of_member cs t

-- the place of a choice, and place 0 where there is none
abbrev pub chosen_place : Option Choice → PlaceId
chosen_place None = first_id
chosen_place (Some c) = c.place

-- the value of a choice, and 0 where there is none
abbrev pub value_in : Option Choice → ℤ
value_in None = pos 0
value_in (Some c) = c.value

-- the place that a round gives to a member
abbrev pub chosen : Round → Policy
chosen r t = chosen_place (choice_of_member r.choices.items t)

-- the potential that a round gives to a member
abbrev pub potential : Round → ℕ → ℤ
potential r t = value_in (choice_of_member r.choices.items t)

-- the transitions to which the choices give places
abbrev pub chosen_for : List Choice → List ℕ
chosen_for cs = map (λ c. c.transition.index) cs

-- what each round is: its circuit belongs to its policy, and its ratio and potentials are those of that circuit
pub record IsRound (net : NetLists) (parts : List ℕ) (part : ℕ) (r : Round) : Type 0 where
  pub members : ListsMembers parts part (chosen_for r.choices.items)
  pub policy : IsPolicy net parts part (chosen r)
  pub circuit : IsPolicyCircuit net parts part (chosen r) r.circuit.places.items
  pub lowest_first : BeginsLowest net r.circuit.places.items
  pub ratio : IsRatioOf (time_of net r.circuit.places.items) (tokens_of net r.circuit.places.items) r.ratio
  pub sums : AreSums net parts part r.ratio.time r.ratio.tokens (chosen r) (first_transition_of net r.circuit.places.items) (potential r)

-- the policy's best circuit through a transition of the kind, and every other member routed to it
pub record IsRoundOf (net : NetLists) (parts : List ℕ) (part : ℕ) (policy : Policy) (Kind : ℕ → Type 0) (r : Round) : Type 0 where
  pub best : IsBestCircuit net parts part policy Kind r.circuit.places.items
  pub routing : (joins : List PlaceId) × IsRouting net parts part policy (first_transition_of net r.circuit.places.items) joins (chosen r)

-- the lowest numbered place of the part that enters t
pub record IsLowestInto (net : NetLists) (parts : List ℕ) (part t : ℕ) (p : PlaceId) : Type 0 where
  pub enters : Enters net parts part t p
  pub lowest : (q : PlaceId) → Enters net parts part t q → p.index ≤ q.index

-- the round of a policy to begin with: all its circuits count
pub record BeginsBy (net : NetLists) (parts : List ℕ) (part : ℕ) (first : Policy) (r : Round) : Type 0 where
  pub round : IsRound net parts part r
  pub made : IsRoundOf net parts part first (IsMember parts part) r

-- each member takes its lowest numbered place; all the policy's circuits count
pub record IsFirstRound (net : NetLists) (parts : List ℕ) (part : ℕ) (r : Round) : Type 0 where
  pub round : IsRound net parts part r
  pub begins : (first : Policy) × ((t : ℕ) → IsMember parts part t → IsLowestInto net parts part t (first t)) × IsRoundOf net parts part first (IsMember parts part) r

-- the better policy has no circuit through a changed member: ratio and circuit stay, and each member has its place
pub record KeepsCircuit (net : NetLists) (parts : List ℕ) (part : ℕ) (r s : Round) (better : Policy) : Type 0 where
  pub none_new : (d : List PlaceId) → IsPolicyCircuit net parts part better d → Any (λ p. IsChanged parts part (chosen r) better (to_of net p)) d → ⊥
  pub same_circuit : s.circuit.places.items ≡ r.circuit.places.items
  pub same_ratio : s.ratio ≡ r.ratio
  pub same_places : (t : ℕ) → IsMember parts part t → chosen s t ≡ better t

-- round s follows from round r
pub record FollowsRound (net : NetLists) (parts : List ℕ) (part : ℕ) (r s : Round) : Type 0 where
  pub round : IsRound net parts part s
  pub improvable : (t : ℕ) × (p : PlaceId) × Improves net parts part r.ratio.time r.ratio.tokens (potential r) t p
  pub better : Policy
  pub improves : IsImprovement net parts part r.ratio.time r.ratio.tokens (chosen r) (potential r) better
  pub next : IsRoundOf net parts part better (IsChanged parts part (chosen r) better) s ⊎ KeepsCircuit net parts part r s better

-- the rounds begin with the first round of the part, and each follows from the one before
pub record IsRunTo (net : NetLists) (parts : List ℕ) (part : ℕ) (rounds : List Round) : Type 0 where
  pub some : 0 < length rounds
  pub first : (d : Round) → IsFirstRound net parts part (slice_index_or rounds 0 d)
  pub next : (k : ℕ) (d : Round) → k + 1 < length rounds → FollowsRound net parts part (slice_index_or rounds k d) (slice_index_or rounds (k + 1) d)

-- the last of the rounds
abbrev pub last_policy_round : List Round → Round → Round
last_policy_round rounds d = slice_index_or rounds (length rounds - 1) d

-- the rounds begin with the first round of the part, each follows from the one before, and no place improves the last
pub record IsPolicyRun (net : NetLists) (parts : List ℕ) (part : ℕ) (rounds : List Round) : Type 0 where
  pub run : IsRunTo net parts part rounds
  pub last : (d : Round) (t : ℕ) (p : PlaceId) → Improves net parts part (last_policy_round rounds d).ratio.time
      (last_policy_round rounds d).ratio.tokens (potential (last_policy_round rounds d)) t p → ⊥

-- no place improves
abbrev pub IsLastRound : NetLists → List ℕ → ℕ → Round → Type 0
IsLastRound net parts part r = (t : ℕ) (p : PlaceId) → Improves net parts part r.ratio.time r.ratio.tokens (potential r) t p → ⊥
