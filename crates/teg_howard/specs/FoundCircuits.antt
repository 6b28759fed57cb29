-- Working definitions of what the searches of a round find: policies as lists, and circuits with their sums.
use Rattle.std.specs.Prelude.{ℕ, ℤ, pos, ◌*◌, ◌<◌, ◌≤◌, ◌≡◌, ◌≢◌, ◌⊎◌, ⊤, List, length, All, Any, Option, Some, None, Bool, slice_index_or}
use Rattle.teg_net.specs.declared.entries.PlaceId.{PlaceId}
use Rattle.teg_net.specs.Nets.{NetLists, IsNet}
use Rattle.teg_net.specs.Circuits.{IsCircuit, time_of, tokens_of, from_of}
use Rattle.teg_howard.specs.declared.policy_circuits.FoundCircuit.{FoundCircuit}
use Rattle.teg_net.specs.Ratios.{Fraction, IsRatioOf}
use Rattle.teg_net.specs.declared.rounds.Choice.{Choice}
use Rattle.teg_howard.specs.declared.settling.RoundState.{RoundState}
use Rattle.teg_parts.specs.Partitions.{AreStrong}
use Rattle.teg_net.specs.Parts.{IsMember, to_of}
use Rattle.teg_net.specs.ReducedTimes.{IsMagnitudeWithin}
use Rattle.policy_rounds.specs.Policies.{Policy, IsPolicy, IsPolicyCircuit, IsBestCircuit, IsRouting, AreSums, Improves, IsImprovement, first_id}
use Rattle.teg_net.specs.PartAnswers.{first_transition_of}
use Rattle.teg_net.specs.Limits.{greatest_scaled_potential, greatest_circuit_time, most_circuit_tokens}
use Rattle.teg_parts.specs.Components.{IsMarked}
use Rattle.policy_rounds.specs.PolicyRounds.{choice_of_member}
use Rattle.policy_rounds.specs.PolicyLists.{policy_of, ListsChoices, IsCircuitRatio}

-- the list gives a policy of places of the net
pub record ListsPolicy (net : NetLists) (parts : List ℕ) (part : ℕ) (ps : List PlaceId) : Type 0 where
  pub count : length ps ≡ length parts
  pub is_policy : IsPolicy net parts part (policy_of ps)
  pub in_range : All (λ p. p.index < length net.places) ps

-- the list gives a policy of the part, to begin with, and place 0 to each other transition
pub record IsBeginning (net : NetLists) (parts : List ℕ) (part : ℕ) (ps : List PlaceId) : Type 0 where
  pub count : length ps ≡ length parts
  pub is_policy : IsPolicy net parts part (policy_of ps)
  pub in_range : All (λ p. p.index < length net.places) ps
  pub outside : (t : ℕ) → (IsMember parts part t → ⊥) → policy_of ps t ≡ first_id

-- a circuit of the policy's places that begins at start, with its sums
pub record IsFoundAt (net : NetLists) (policy : Policy) (start : ℕ) (f : FoundCircuit) : Type 0 where
  pub circuit : IsCircuit net f.places.items
  pub own : All (λ p. policy (to_of net p) ≡ p) f.places.items
  pub begins : first_transition_of net f.places.items ≡ start
  pub time : f.time ≡ time_of net f.places.items
  pub tokens : f.tokens ≡ tokens_of net f.places.items
  pub time_in : f.time ≤ greatest_circuit_time
  pub tokens_in : f.tokens ≤ most_circuit_tokens

-- whether a circuit with these sums has a greater ratio than the best so far
abbrev pub IsAbove : FoundCircuit → Option FoundCircuit → Type 0
IsAbove c None = ⊤
IsAbove c (Some best) = best.time * c.tokens < c.time * best.tokens

-- the time and the tokens of the circuit, where one was found, keep their bounds
abbrev pub IsFoundSmall : Option FoundCircuit → Type 0
IsFoundSmall None = ⊤
IsFoundSmall (Some f) = (f.time ≤ greatest_circuit_time) × (f.tokens ≤ most_circuit_tokens)

-- the circuit is taken where it passes a marked transition and is above the best so far, and else that best stays
abbrev pub IsBetterOf : NetLists → List Bool → FoundCircuit → Option FoundCircuit → Option FoundCircuit → Type 0
IsBetterOf net marked c best result =
    (Any (λ p. IsMarked marked (to_of net p)) c.places.items × IsAbove c best × (result ≡ Some c))
    ⊎ (((Any (λ p. IsMarked marked (to_of net p)) c.places.items → ⊥) ⊎ (IsAbove c best → ⊥)) × (result ≡ best))

-- the best circuit, with its sums
pub record IsBestFound (net : NetLists) (parts : List ℕ) (part : ℕ) (policy : Policy) (marked : List Bool) (f : FoundCircuit) : Type 0 where
  pub best : IsBestCircuit net parts part policy (IsMarked marked) f.places.items
  pub time : f.time ≡ time_of net f.places.items
  pub tokens : f.tokens ≡ tokens_of net f.places.items
  pub time_in : f.time ≤ greatest_circuit_time
  pub tokens_in : f.tokens ≤ most_circuit_tokens

-- the value that the list gives a transition, if any
abbrev pub value_held : List (Option ℤ) → ℕ → Option ℤ
value_held values t = slice_index_or values t None

-- a member without a value whose place starts at a transition with one
pub record IsFollower (net : NetLists) (parts : List ℕ) (part : ℕ) (policy : Policy) (values : List (Option ℤ)) (t : ℕ) : Type 0 where
  pub member : IsMember parts part t
  pub without : value_held values t ≡ None
  pub starts : value_held values (from_of net (policy t)) ≢ None

-- a place from a transition with a value to one without
abbrev pub LeadsOn : NetLists → List (Option ℤ) → PlaceId → Type 0
LeadsOn net values p = (value_held values (from_of net p) ≢ None) × (value_held values (to_of net p) ≡ None)

-- no place of the list below the rank leads from a transition with a value to one without
abbrev pub NoneLeadsOn : NetLists → List (Option ℤ) → List PlaceId → ℕ → Type 0
NoneLeadsOn net values ids n = (k : ℕ) → k < n → LeadsOn net values (slice_index_or ids k first_id) → ⊥

-- the first place of the list that leads from a transition with a value to one without stands at the rank
pub record IsFirstOn (net : NetLists) (values : List (Option ℤ)) (ids : List PlaceId) (rank : ℕ) : Type 0 where
  pub in_list : rank < length ids
  pub leads : LeadsOn net values (slice_index_or ids rank first_id)
  pub none_before : NoneLeadsOn net values ids rank

-- the value, and 0 where there is none
abbrev pub value_or_zero : Option ℤ → ℤ
value_or_zero None = pos 0
value_or_zero (Some z) = z

-- choices that have the places and the values of the members
pub record AreChoicesMade (parts : List ℕ) (part : ℕ) (policy : Policy) (values : List (Option ℤ)) (cs : List Choice) : Type 0 where
  pub lists : ListsChoices parts part cs
  pub inside : (t : ℕ) → IsMember parts part t → choice_of_member cs t ≡ Some (record { transition = record { index = t }; place = policy t; value = value_or_zero (value_held values t) })
  pub outside : (t : ℕ) → (IsMember parts part t → ⊥) → choice_of_member cs t ≡ None

-- what `settle` needs of a policy and one of its circuits
pub record CanSettle (net : NetLists) (parts : List ℕ) (part : ℕ) (policy : List PlaceId) (r : Fraction) (c : List PlaceId) : Type 0 where
  pub kept : IsNet net
  pub parts_ : AreStrong net parts
  pub count : length policy ≡ length parts
  pub is_policy : IsPolicy net parts part (policy_of policy)
  pub in_range : All (λ p. p.index < length net.places) policy
  pub circuit : IsPolicyCircuit net parts part (policy_of policy) c
  pub lowest_first : All (λ p. first_transition_of net c ≤ from_of net p) c
  pub ratio : IsRatioOf (time_of net c) (tokens_of net c) r
  pub small : IsCircuitRatio r

-- the potentials that a list of values gives
abbrev pub potentials : List (Option ℤ) → ℕ → ℤ
potentials values t = value_or_zero (value_held values t)

-- all members routed to the root, with the potentials from it
pub record AreRouted (net : NetLists) (parts : List ℕ) (part : ℕ) (policy routed : List PlaceId) (r : Fraction) (root : ℕ) (values : List (Option ℤ)) : Type 0 where
  pub routing : (joins : List PlaceId) × IsRouting net parts part (policy_of policy) root joins (policy_of routed)
  pub sums : AreSums net parts part r.time r.tokens (policy_of routed) root (potentials values)
  pub outside : (t : ℕ) → (IsMember parts part t → ⊥) → policy_of routed t ≡ policy_of policy t
  pub in_range : All (λ p. p.index < length net.places) routed
  pub count : length values ≡ length parts
  pub has : (t : ℕ) → IsMember parts part t → value_held values t ≢ None
  pub only : (t : ℕ) → (IsMember parts part t → ⊥) → value_held values t ≡ None
  pub within : (t : ℕ) → IsMagnitudeWithin greatest_scaled_potential (potentials values t)

-- a round that stands: the policy routed to the circuit, with the potentials from it
pub record IsSettled (net : NetLists) (parts : List ℕ) (part : ℕ) (policy routed : List PlaceId) (r : Fraction) (c : List PlaceId) (s : RoundState) : Type 0 where
  pub ratio : s.round.ratio ≡ r
  pub circuit : s.round.circuit.places.items ≡ c
  pub made : AreChoicesMade parts part (policy_of routed) s.values.items s.round.choices.items
  pub members : AreRouted net parts part policy routed r (first_transition_of net c) s.values.items

-- what an offer to the transition has to exceed: the greatest so far, and before that its potential
abbrev pub IsBar : (ℕ → ℤ) → List ℤ → List Bool → ℕ → ℤ → Type 0
IsBar v greatest changed t z = (IsMarked changed t → z ≡ slice_index_or greatest t (pos 0)) × ((IsMarked changed t → ⊥) → z ≡ v t)

-- values and a policy that can be improved
pub record CanImprove (net : NetLists) (parts : List ℕ) (part : ℕ) (r : Fraction) (values : List (Option ℤ)) (policy : List PlaceId) : Type 0 where
  pub parts_ : length parts ≡ length net.transitions
  pub count : length policy ≡ length parts
  pub count_values : length values ≡ length parts
  pub has : (t : ℕ) → IsMember parts part t → value_held values t ≢ None
  pub within : (t : ℕ) → IsMagnitudeWithin greatest_scaled_potential (value_or_zero (value_held values t))
  pub small : IsCircuitRatio r
  pub in_range : All (λ p. p.index < length net.places) policy

-- the better policy, with the members that a place improves marked
pub record IsBetterPolicy (net : NetLists) (parts : List ℕ) (part : ℕ) (r : Fraction) (values : List (Option ℤ)) (policy better : List PlaceId) (marked : List Bool) : Type 0 where
  pub improves : IsImprovement net parts part r.time r.tokens (policy_of policy) (potentials values) (policy_of better)
  pub marks : (t : ℕ) → IsMarked marked t → Improves net parts part r.time r.tokens (potentials values) t (policy_of better t)
  pub rest : (t : ℕ) → (IsMarked marked t → ⊥) → policy_of better t ≡ policy_of policy t
  pub none : (t : ℕ) → (IsMarked marked t → ⊥) → (p : PlaceId) → Improves net parts part r.time r.tokens (potentials values) t p → ⊥
  pub count : length marked ≡ length parts
  pub in_range : All (λ p. p.index < length net.places) better
