-- Working definitions of what holds between two rounds.
use Rattle.std.specs.Prelude.{ℕ, ◌*◌, ◌<◌, ◌≤◌, ◌≡◌, ◌≢◌, ◌⊎◌, ◌<ℤ◌, ◌≤ℤ◌, List, length, All, Bool, None}
use Rattle.teg_net.specs.declared.entries.PlaceId.{PlaceId}
use Rattle.teg_net.specs.Nets.{NetLists, IsNet}
use Rattle.teg_net.specs.Circuits.{IsLive, time_of, tokens_of, from_of}
use Rattle.teg_net.specs.declared.rounds.Round.{Round}
use Rattle.teg_howard.specs.declared.settling.RoundState.{RoundState}
use Rattle.teg_howard.specs.declared.iteration.Iteration.{Iteration}
use Rattle.teg_parts.specs.Components.{IsMarked}
use Rattle.teg_howard.specs.InnerPlaces.{AreInner}
use Rattle.teg_parts.specs.Partitions.{AreStrong}
use Rattle.teg_net.specs.Parts.{IsMember, IsPlaceOfPart}
use Rattle.policy_rounds.specs.Policies.{Policy, IsPolicy, IsPolicyCircuit, LeadsBack, AreSums, Improves, first_id}
use Rattle.teg_net.specs.ReducedTimes.{IsMagnitudeWithin}
use Rattle.teg_net.specs.PartAnswers.{first_transition_of}
use Rattle.policy_rounds.specs.PolicyRounds.{chosen, potential, BeginsBy, FollowsRound, IsLastRound}
use Rattle.teg_net.specs.Ratios.{Fraction, IsRatioOf}
use Rattle.teg_net.specs.Limits.{greatest_scaled_potential}
use Rattle.teg_howard.specs.FoundCircuits.{potentials, value_held, value_or_zero, CanSettle, IsSettled, IsBetterPolicy}
use Rattle.policy_rounds.specs.PolicyLists.{IsCircuitRatio, policy_of, ListsChoices}

-- a round stands on the policy that the list gives
pub record IsRoundState (net : NetLists) (parts : List ℕ) (part : ℕ) (policy : List PlaceId) (st : RoundState) : Type 0 where
  pub members : ListsChoices parts part st.round.choices.items
  pub chosen_is : (t : ℕ) → chosen st.round t ≡ policy_of policy t
  pub potential_is : (t : ℕ) → potential st.round t ≡ potentials st.values.items t
  pub is_policy : IsPolicy net parts part (policy_of policy)
  pub circuit : IsPolicyCircuit net parts part (policy_of policy) st.round.circuit.places.items
  pub lowest_first : All (λ p. first_transition_of net st.round.circuit.places.items ≤ from_of net p) st.round.circuit.places.items
  pub ratio : IsRatioOf (time_of net st.round.circuit.places.items) (tokens_of net st.round.circuit.places.items) st.round.ratio
  pub sums : AreSums net parts part st.round.ratio.time st.round.ratio.tokens (policy_of policy) (first_transition_of net st.round.circuit.places.items) (potentials st.values.items)
  pub home : (t : ℕ) → IsMember parts part t → LeadsBack net (policy_of policy) t (first_transition_of net st.round.circuit.places.items)
  pub small : IsCircuitRatio st.round.ratio
  pub count : length policy ≡ length parts
  pub count_values : length st.values.items ≡ length parts
  pub in_range : All (λ p. p.index < length net.places) policy
  pub has : (t : ℕ) → IsMember parts part t → value_held st.values.items t ≢ None
  pub within : (t : ℕ) → IsMagnitudeWithin greatest_scaled_potential (value_or_zero (value_held st.values.items t))
  pub outside : (t : ℕ) → (IsMember parts part t → ⊥) → policy_of policy t ≡ first_id
  pub no_value : (t : ℕ) → (IsMember parts part t → ⊥) → value_held st.values.items t ≡ None

-- the ratio stays, no potential falls, and one rises
pub record RisesEach (r s : Round) : Type 0 where
  pub same : s.ratio ≡ r.ratio
  pub no_lower : (t : ℕ) → potential r t ≤ℤ potential s t
  pub higher : (t : ℕ) × (t < 400) × (potential r t <ℤ potential s t)

-- the ratio rises, or the potentials do
abbrev pub Rises : Round → Round → Type 0
Rises r s = (r.ratio.time * s.ratio.tokens < s.ratio.time * r.ratio.tokens) ⊎ RisesEach r s

-- a live net, its parts, and a part with a place in it
pub record HasCircuit (net : NetLists) (parts : List ℕ) (part : ℕ) : Type 0 where
  pub kept : IsNet net
  pub live : IsLive net
  pub parts_ : AreStrong net parts
  pub inner : (p : PlaceId) × IsPlaceOfPart net parts part p

-- settling the policy on the ratio and the circuit gives such a round
pub record SettlesTo (net : NetLists) (parts : List ℕ) (part : ℕ) (policy : List PlaceId) (r : Fraction) (c : List PlaceId) (Kind : List PlaceId → RoundState → Type 0) : Type 0 where
  pub can : CanSettle net parts part policy r c
  pub gives : (routed : List PlaceId) (st : RoundState) → length routed ≡ length policy → IsSettled net parts part policy routed r c st → Kind routed st

-- the first round, that of the policy to begin with, from which the others follow
pub record IsFirstState (net : NetLists) (parts : List ℕ) (part : ℕ) (first : Policy) (policy : List PlaceId) (st : RoundState) : Type 0 where
  pub standing : IsRoundState net parts part policy st
  pub begins : BeginsBy net parts part first st.round

-- the policy is better than that of the round: some member is changed
pub record IsImproved (net : NetLists) (parts : List ℕ) (part : ℕ) (st : RoundState) (better : List PlaceId) (changed : List Bool) : Type 0 where
  pub policy : List PlaceId
  pub standing : IsRoundState net parts part policy st
  pub up : IsBetterPolicy net parts part st.round.ratio st.values.items policy better changed
  pub count : length better ≡ length parts
  pub some : (t : ℕ) × IsMarked changed t

-- the next round, from one that stands
pub record IsNextRoundState (net : NetLists) (parts : List ℕ) (part : ℕ) (policy : List PlaceId) (st next : RoundState) : Type 0 where
  pub standing : IsRoundState net parts part policy next
  pub follows : FollowsRound net parts part st.round next.round
  pub rises : Rises st.round next.round

-- the rounds stand at one that stands
pub record IsIteration (net : NetLists) (parts : List ℕ) (part : ℕ) (at : Iteration) : Type 0 where
  pub inner : AreInner net parts part at.inner.ids.items at.inner.exits.items
  pub standing : IsRoundState net parts part at.policy.items at.state

-- they go on from the round before to the one that follows
pub record GoesOn (net : NetLists) (parts : List ℕ) (part : ℕ) (old new : Iteration) (before : Round) : Type 0 where
  pub before_is : before ≡ old.state.round
  pub standing : IsIteration net parts part new
  pub follows : FollowsRound net parts part old.state.round new.state.round
  pub rises : Rises old.state.round new.state.round

-- they stay, at the last round
pub record StaysAtLast (net : NetLists) (parts : List ℕ) (part : ℕ) (old new : Iteration) : Type 0 where
  pub same : new.state ≡ old.state
  pub last : IsLastRound net parts part old.state.round
