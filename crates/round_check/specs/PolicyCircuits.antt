-- Working definitions of how circuits of a policy are compared.
use Rattle.std.specs.Prelude.{ℕ, ◌*◌, ◌<◌, ◌≤◌, ◌≡◌, ◌↔◌, ◌⊎◌, ⊤, List, Bool, All, Any, Option, Some, None, IsTrue}
use Rattle.teg_net.specs.declared.entries.PlaceId.{PlaceId}
use Rattle.teg_net.specs.Nets.{NetLists}
use Rattle.teg_net.specs.Circuits.{from_of, time_of, tokens_of}
use Rattle.teg_net.specs.Limits.{greatest_circuit_time, most_circuit_tokens}
use Rattle.teg_net.specs.Parts.{to_of}
use Rattle.teg_net.specs.PartAnswers.{first_transition_of}
use Rattle.policy_rounds.specs.Policies.{Policy, IsPolicyCircuit}
use Rattle.teg_parts.specs.Components.{IsMarked}
use Rattle.round_check.specs.declared.circuits.Around.{Around}
use Rattle.round_check.specs.declared.circuits.Bound.{Bound}

-- a circuit of the policy that begins at the transition, with its sums and whether it passes a marked transition
pub record IsAround (net : NetLists) (parts : List ℕ) (part : ℕ) (policy : Policy) (marked : List Bool) (start : ℕ) (a : Around) : Type 0 where
  pub places : List PlaceId
  pub circuit : IsPolicyCircuit net parts part policy places
  pub begins : first_transition_of net places ≡ start
  pub time : a.time ≡ time_of net places
  pub tokens : a.tokens ≡ tokens_of net places
  pub passes : IsTrue a.passes ↔ Any (λ p. IsMarked marked (to_of net p)) places
  pub time_in : a.time ≤ greatest_circuit_time
  pub tokens_in : a.tokens ≤ most_circuit_tokens

-- the time and the tokens of a bound are those that circuits may have
pub record IsBoundSmall (b : Bound) : Type 0 where
  pub time_in : b.time ≤ greatest_circuit_time
  pub tokens_in : b.tokens ≤ most_circuit_tokens

-- the bound is the time, the tokens and the beginning of the circuit
pub record IsBoundOf (net : NetLists) (c : List PlaceId) (b : Bound) : Type 0 where
  pub time : b.time ≡ time_of net c
  pub tokens : b.tokens ≡ tokens_of net c
  pub first : b.first ≡ first_transition_of net c
  pub small : IsBoundSmall b

-- a circuit of this time and these tokens that begins here has at most the ratio of the bound, and begins no lower where it has that ratio
abbrev pub IsAtMostAt : ℕ → ℕ → ℕ → Bound → Type 0
IsAtMostAt time tokens start b =
    (time * b.tokens < b.time * tokens) ⊎ ((time * b.tokens ≡ b.time * tokens) × (b.first ≤ start))

-- the circuit, if one was found that passes a marked transition, does so; where there is no bound, none passes one
abbrev pub FitsBound : Option Around → Option Bound → ℕ → Type 0
FitsBound None b start = ⊤
FitsBound (Some a) None start = IsTrue a.passes → ⊥
FitsBound (Some a) (Some b) start = IsTrue a.passes → IsAtMostAt a.time a.tokens start b

-- the circuit does so; where there is no bound, there is none
abbrev pub IsAtMost : NetLists → Option Bound → List PlaceId → Type 0
IsAtMost net None d = ⊥
IsAtMost net (Some b) d = IsAtMostAt (time_of net d) (tokens_of net d) (first_transition_of net d) b

-- each circuit of the policy that passes a marked transition does so
abbrev pub AllAtMost : NetLists → List ℕ → ℕ → Policy → List Bool → Option Bound → Type 0
AllAtMost net parts part policy marked bound =
    (d : List PlaceId) → IsPolicyCircuit net parts part policy d → Any (λ p. IsMarked marked (to_of net p)) d → IsAtMost net bound d

-- the places of the circuit are the policy's, one of them ends at a marked transition, and no circuit of the policy that passes one is
-- above the bound
pub record FitsPolicy (net : NetLists) (parts : List ℕ) (part : ℕ) (policy : Policy) (marked : List Bool) (c : List PlaceId) (b : Bound) : Type 0 where
  pub own : All (λ p. policy (to_of net p) ≡ p) c
  pub through : Any (λ p. IsMarked marked (to_of net p)) c
  pub most : AllAtMost net parts part policy marked (Some b)

-- each circuit of the policy that begins at the transition, its lowest one, and passes a marked one does so
abbrev pub AreAtMost : NetLists → List ℕ → ℕ → Policy → List Bool → Option Bound → ℕ → Type 0
AreAtMost net parts part policy marked bound start =
    (d : List PlaceId) → IsPolicyCircuit net parts part policy d → All (λ p. first_transition_of net d ≤ from_of net p) d → first_transition_of net d ≡ start
    → Any (λ p. IsMarked marked (to_of net p)) d → IsAtMost net bound d
